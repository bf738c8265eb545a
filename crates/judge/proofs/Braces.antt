-- What a value is, by the kind of its first byte: a dict and its pairs, a string and whether it is the key.
use Prim.Native.Nat.{ℕ, suc, ◌+◌}
use mathlib.Core.Path.{◌≡◌, refl, sym, ap, subst, ◌∙◌}
use mathlib.Core.List.{List, [], ◌∷◌}
use mathlib.Core.Bool.{Bool, true, false, cond}
use lib.Dec.{eqb}
use borrow.Author.Tests.{eqb-true}
use denote.Enum.Declared.{tag_of}
use types.Run.{OneOf, miss}
use Rattle.counts.specs.Outcome.{gives, refused, given}
use Rattle.counts.proofs.Alike.{true_false}
use Rattle.record.specs.Parts.{string_or}
use Rattle.record.specs.Dict.{key_order, key_shape, key_descr, is_the}
use Rattle.literal_grammar.specs.Bytes.{is_open, is_quote}
use Rattle.decimal.specs.Decimal.{is_digit}
use Rattle.literal_tokens.specs.Node.{Node, span, dict, pairs}
use Rattle.literal_bytes.specs.Got.{got, with}
use Rattle.literal.specs.Forget.{forget}
use Rattle.literal_bytes.specs.Text.{byte_at, kind_of}
use Rattle.literal_escapes.specs.Strings.{spelled}
use Rattle.literal.specs.Brackets.{list_by, pair_by}
use Rattle.literal.specs.Literal.{bracket_by, value}
use Rattle.literal_bytes.specs.declared.ValueKind.{ValueKind}
use Rattle.literal_bytes.specs.declared.ValueKind.TheVariants.{Square, Round, Curly, Quote, Minus, Digit, TrueWord, FalseWord, NoneWord, Other}
use Rattle.literal_bytes.specs.contracts.ValueKind.{the_type}
use Rattle.literal.proofs.View.{view, View}
use Rattle.descr_field.specs.Begins.{is_string}
use Rattle.descr_field.proofs.Begins.{other_kind}
use Rattle.judge_names.specs.declared.Name as name
use Rattle.judge_names.specs.declared.Name.{Name}
use Rattle.judge_names.specs.Answer.{NameIs}
use Rattle.judge.specs.Pairs.{pairs_in}

-- what the `else` of `let ValueKind::Curly = k else { .. }` knows of k, and that of `ValueKind::Quote`
abbrev pub NoCurly : ValueKind → Type 0
NoCurly c = OneOf (0 ∷ 1 ∷ 3 ∷ 4 ∷ 5 ∷ 6 ∷ 7 ∷ 8 ∷ 9 ∷ []) (tag_of the_type c)

abbrev pub NoQuote : ValueKind → Type 0
NoQuote c = OneOf (0 ∷ 1 ∷ 2 ∷ 4 ∷ 5 ∷ 6 ∷ 7 ∷ 8 ∷ 9 ∷ []) (tag_of the_type c)

-- a brace
is_curly : ValueKind → Bool
is_curly Curly = true
is_curly Square = false
is_curly Round = false
is_curly Quote = false
is_curly Minus = false
is_curly Digit = false
is_curly TrueWord = false
is_curly FalseWord = false
is_curly NoneWord = false
is_curly Other = false

curly_by : (a b c d e f g h i : Bool)
    → is_curly (cond a Square (cond b Round (cond c Curly (cond d Minus (cond e TrueWord (cond f FalseWord (cond g NoneWord (cond h Quote (cond i Digit Other))))))))) ≡ true → c ≡ true
unfolding is_curly
curly_by true b c d e f g h i z = true_false (sym z)
curly_by false true c d e f g h i z = true_false (sym z)
curly_by false false true d e f g h i z = refl
curly_by false false false true e f g h i z = true_false (sym z)
curly_by false false false false true f g h i z = true_false (sym z)
curly_by false false false false false true g h i z = true_false (sym z)
curly_by false false false false false false true h i z = true_false (sym z)
curly_by false false false false false false false true i z = true_false (sym z)
curly_by false false false false false false false false true z = true_false (sym z)
curly_by false false false false false false false false false z = true_false (sym z)

curly_byte : (b : ℕ) → kind_of b ≡ Curly → b ≡ 123
unfolding kind_of is_curly
curly_byte b h = eqb-true b 123 (curly_by (eqb b 91) (eqb b 40) (eqb b 123) (eqb b 45) (eqb b 84) (eqb b 70) (eqb b 78) (is_quote b) (is_digit b) (ap is_curly h))

dict_by : (k : ℕ) (s : List ℕ) (at : ℕ) → byte_at s at ≡ 123 → value (suc k) s at ≡ with (λ e ps. dict (span at e) (pairs ps)) (list_by (pair_by (value k s) s) s (at + 1) 125)
unfolding value bracket_by is_open
dict_by k s at h =
    let opens : is_open (byte_at s at) ≡ true = ap is_open h in
    let no_square : eqb (byte_at s at) 91 ≡ false = ap (λ (b : ℕ). eqb b 91) h in
    let no_round : eqb (byte_at s at) 40 ≡ false = ap (λ (b : ℕ). eqb b 40) h in
    rw (value, opens, bracket_by, no_square, no_round)

-- a value that begins with a brace is the dict of its pairs
pub dict_at : (k : ℕ) (s : List ℕ) (at : ℕ) (c : ValueKind) → c ≡ kind_of (byte_at s at) → c ≡ Curly
    → value (suc k) s at ≡ with (λ e ps. dict (span at e) (pairs ps)) (list_by (pair_by (value k s) s) s (at + 1) 125)
dict_at k s at c hk z = dict_by k s at (curly_byte (byte_at s at) (sym hk ∙ z))

module _ (k : ℕ) (s : List ℕ) (at e : ℕ) (n : Node) (h : value k s at ≡ got n e) where
  no_braces_by : (j : ℕ) (c : ValueKind) → NoCurly c → View c k s at n e → pairs_in j n ≡ refused j
  no_braces_by j Square z v = ap (pairs_in j) v.2
  no_braces_by j Round z v = ap (pairs_in j) v.2
  no_braces_by j Curly z v = absurd (miss (0 ∷ 1 ∷ 3 ∷ 4 ∷ 5 ∷ 6 ∷ 7 ∷ 8 ∷ 9 ∷ []) 2 tt z)
  no_braces_by j Quote z v = ap (pairs_in j) v.0
  no_braces_by j Minus z v = ap (pairs_in j) v.0
  no_braces_by j Digit z v = ap (pairs_in j) v.0
  no_braces_by j TrueWord z v = ap (pairs_in j) v
  no_braces_by j FalseWord z v = ap (pairs_in j) v
  no_braces_by j NoneWord z v = ap (pairs_in j) v
  no_braces_by j Other z v = absurd v

  pub no_braces : (j : ℕ) (c : ValueKind) → c ≡ kind_of (byte_at s at) → NoCurly c → pairs_in j n ≡ refused j
  no_braces j c hk z = no_braces_by j c z (view k s at h (sym hk))

  -- a string
  text_of : {m : Node} → n ≡ m → string_or 8 (forget n) ≡ string_or 8 (forget m)
  text_of z = ap (λ (x : Node). string_or 8 (forget x)) z

  a_string : kind_of (byte_at s at) ≡ Quote → string_or 8 (forget n) ≡ gives (spelled (byte_at s at) s (at + 1)).bytes
  unfolding forget
  a_string hk = let v = view k s at h hk in text_of v.0

  -- which of the three it is
  pub name_by_lem : (r : Name) → kind_of (byte_at s at) ≡ Quote → NameIs r (gives (spelled (byte_at s at) s (at + 1)).bytes) → NameIs r (string_or 8 (forget n))
  name_by_lem r hk h = subst (NameIs r) (sym (a_string hk)) h

  no_string_by : (c : ValueKind) → is_string c ≡ false → View c k s at n e → string_or 8 (forget n) ≡ refused 8
  unfolding forget
  no_string_by Square z v = text_of v.2
  no_string_by Round z v = text_of v.2
  no_string_by Curly z v = text_of v.2
  no_string_by Quote z v = true_false z
  no_string_by Minus z v = text_of v.0
  no_string_by Digit z v = text_of v.0
  no_string_by TrueWord z v = text_of v
  no_string_by FalseWord z v = text_of v
  no_string_by NoneWord z v = text_of v
  no_string_by Other z v = absurd v

  pub not_a_string : is_string (kind_of (byte_at s at)) ≡ false → NameIs name.Name.NoString (string_or 8 (forget n))
  not_a_string z =
      let e = no_string_by (kind_of (byte_at s at)) z (view k s at h refl) in
      record { of_string = ap given e; of_descr = ap (is_the key_descr) e; of_order = ap (is_the key_order) e; of_shape = ap (is_the key_shape) e }

  pub no_string : (c : ValueKind) → c ≡ kind_of (byte_at s at) → NoQuote c → NameIs name.Name.NoString (string_or 8 (forget n))
  no_string c hk z = not_a_string (ap is_string (sym hk) ∙ other_kind c z)
