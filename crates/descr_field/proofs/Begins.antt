-- Where a string begins, there is a byte of the text, since what is past the end is of another kind. By the kinds.
use Prim.Native.Nat.{ℕ, ◌<◌}
use mathlib.Core.Path.{◌≡◌, refl, sym, ap, ◌∙◌}
use mathlib.Core.List.{List, [], ◌∷◌}
use mathlib.Core.Bool.{true, false}
use lib.ListN.{length}
use denote.Enum.Declared.{tag_of}
use types.Run.{OneOf, miss}
use lib.Dec.{eqb}
use borrow.Author.Tests.{eqb-true}
use Rattle.counts.proofs.Alike.{true_false}
use Rattle.decimal.specs.Decimal.{is_digit}
use Rattle.literal_grammar.specs.Bytes.{is_quote}
use Rattle.literal_bytes.specs.Text.{byte_at, kind_of}
use Rattle.literal_bytes.specs.declared.ValueKind.{ValueKind}
use Rattle.literal_bytes.specs.declared.ValueKind.TheVariants.{Square, Round, Curly, Quote, Minus, Digit, TrueWord, FalseWord, NoneWord, Other}
use Rattle.literal_bytes.specs.contracts.ValueKind.{the_type}
use Rattle.literal_bytes.proofs.Positions.{by_test, kind_in}
use Rattle.descr_field.specs.Begins.{is_string}

-- every kind but a string's
pub other_kind : (k : ValueKind) → OneOf (0 ∷ 1 ∷ 2 ∷ 4 ∷ 5 ∷ 6 ∷ 7 ∷ 8 ∷ 9 ∷ []) (tag_of the_type k) → is_string k ≡ false
other_kind Square o = refl
other_kind Round o = refl
other_kind Curly o = refl
other_kind Quote o = absurd (miss (0 ∷ 1 ∷ 2 ∷ 4 ∷ 5 ∷ 6 ∷ 7 ∷ 8 ∷ 9 ∷ []) 3 tt o)
other_kind Minus o = refl
other_kind Digit o = refl
other_kind TrueWord o = refl
other_kind FalseWord o = refl
other_kind NoneWord o = refl
other_kind Other o = refl

-- a string begins with a quote, and nothing else does
pub string_quote : (b : ℕ) → is_quote b ≡ is_string (kind_of b)
unfolding kind_of is_quote
string_quote b =
    by_test P (eqb b 91) (other 91 refl) (λ h. by_test P (eqb b 40) (other 40 refl) (λ h. by_test P (eqb b 123) (other 123 refl) (λ h. by_test P (eqb b 45) (other 45 refl)
    (λ h. by_test P (eqb b 84) (other 84 refl) (λ h. by_test P (eqb b 70) (other 70 refl) (λ h. by_test P (eqb b 78) (other 78 refl)
    (λ h. by_test P (is_quote b) (λ h. h) (λ h. by_test P (is_digit b) (λ d. h) (λ d. h)))))))))
  where
    P : ValueKind → Type 0
    P k = is_quote b ≡ is_string k

    other : (x : ℕ) → is_quote x ≡ false → eqb b x ≡ true → is_quote b ≡ false
    other x n h = ap is_quote (eqb-true b x h) ∙ n

pub string_kind : (k : ValueKind) → is_string k ≡ true → k ≡ Quote
string_kind Square h = true_false (sym h)
string_kind Round h = true_false (sym h)
string_kind Curly h = true_false (sym h)
string_kind Quote h = refl
string_kind Minus h = true_false (sym h)
string_kind Digit h = true_false (sym h)
string_kind TrueWord h = true_false (sym h)
string_kind FalseWord h = true_false (sym h)
string_kind NoneWord h = true_false (sym h)
string_kind Other h = true_false (sym h)

module _ (s : List ℕ) (at : ℕ) where
  pub string_in : is_string (kind_of (byte_at s at)) ≡ true → at < length s
  string_in h = kind_in s at (string_kind (kind_of (byte_at s at)) h) refl
