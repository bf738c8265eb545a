-- Digits at a position are the integer that is there, by the kind of its first byte; and the bracket that closes, by that kind.
use Rattle.std.specs.Prelude.{Err, Result}
use Prim.Native.Nat.{ℕ, ◌+◌}
use mathlib.Core.Path.{◌≡◌, refl, sym, ap, subst, ◌∙◌}
use mathlib.Core.List.{List, [], ◌∷◌}
use mathlib.Core.Bool.{Bool, true, false, ◌||◌, cond}
use lib.Dec.{eqb}
use borrow.Author.Tests.{eqb-true, eq-eqb, ne_eqb}
use denote.Enum.Declared.{tag_of}
use types.Run.{OneOf, miss}
use Rattle.counts.specs.Outcome.{Outcome, refused}
use Rattle.counts.specs.Number.{number}
use Rattle.counts.proofs.Alike.{true_false}
use Rattle.decimal.specs.Decimal.{is_digit, decimal}
use Rattle.literal_grammar.specs.Bytes.{is_open, is_quote}
use Rattle.record.specs.Dimensions.{signed, dimension}
use Rattle.literal_tokens.specs.Node.{Node}
use Rattle.literal_bytes.specs.Got.{got, pos}
use Rattle.literal.specs.Forget.{forget}
use Rattle.literal_bytes.specs.Text.{byte_at, part, kind_of, past}
use Rattle.literal_tokens.specs.Tokens.{natural_at, number_of_numeral, numeral_at}
use Rattle.literal.specs.Literal.{value}
use Rattle.literal_tokens.specs.declared.Numeral.{Numeral}
use Rattle.literal_bytes.specs.declared.Parsed.{Parsed}
use Rattle.literal_bytes.specs.declared.Parsed.TheVariants.{Value, Fault, Deep}
use Rattle.literal_bytes.specs.declared.ValueKind.{ValueKind}
use Rattle.literal_bytes.specs.declared.ValueKind.TheVariants.{Square, Round, Curly, Quote, Minus, Digit, TrueWord, FalseWord, NoneWord, Other}
use Rattle.literal_bytes.specs.contracts.Parsed as parsed
use Rattle.literal_bytes.specs.contracts.ValueKind.{the_type}
use Rattle.literal_tokens.proofs.Ends.{token_end, token_ends}
use Rattle.literal_bytes.proofs.Ends.{Stops, stops}
use Rattle.literal.proofs.Steps.{value_token}
use Rattle.literal.proofs.View.{view, View}
use Rattle.refusal.specs.declared.Refusal.{Refusal}
use Rattle.shape_verdict.specs.Signs.{positive_of, negative_of}
use Rattle.shape_text.specs.Members.{closing_of, member_at}

-- ---- digits at a position, and the kind of the byte there
digit_not : (b k : ℕ) → is_digit b ≡ true → is_digit k ≡ false → eqb b k ≡ false
digit_not b k h n = ne_eqb b k (λ e. true_false (sym h ∙ ap is_digit e ∙ n))

digit_kind : (b : ℕ) → is_digit b ≡ true → kind_of b ≡ Digit
unfolding kind_of is_quote is_digit
digit_kind b h =
    let no : (k : ℕ) → is_digit k ≡ false → eqb b k ≡ false = λ k n. digit_not b k h n in
    rw (kind_of, no 91 refl, no 40 refl, no 123 refl, no 45 refl, no 84 refl, no 70 refl, no 78 refl, no 39 refl, no 34 refl, h)

pub minus_kind : (b : ℕ) → b ≡ 45 → kind_of b ≡ Minus
unfolding kind_of
minus_kind b h = rw h

abbrev is_integer : ValueKind → Bool
is_integer Minus = true
is_integer Digit = true
is_integer Square = false
is_integer Round = false
is_integer Curly = false
is_integer Quote = false
is_integer TrueWord = false
is_integer FalseWord = false
is_integer NoneWord = false
is_integer Other = false

no_integer : (b : ℕ) → (b ≡ 45 → ⊥) → is_digit b ≡ false → is_integer (kind_of b) ≡ false
unfolding kind_of
no_integer b hm hd = rw (kind_of, ne_eqb b 45 hm, hd) (go (eqb b 91) (eqb b 40) (eqb b 123) (eqb b 84) (eqb b 70) (eqb b 78) (is_quote b))
  where
    go : (t u v w x y z : Bool) → is_integer (cond t Square (cond u Round (cond v Curly (cond w TrueWord (cond x FalseWord (cond y NoneWord (cond z Quote Other))))))) ≡ false
    go true u v w x y z = refl
    go false true v w x y z = refl
    go false false true w x y z = refl
    go false false false true x y z = refl
    go false false false false true y z = refl
    go false false false false false true z = refl
    go false false false false false false true = refl
    go false false false false false false false = refl

module _ (s : List ℕ) (at : ℕ) where
  -- digits end somewhere exactly where there is one
  abbrev Natural : Parsed → Type 0
  Natural (Value e) = is_digit (byte_at s at) ≡ true
  Natural (Fault p) = is_digit (byte_at s at) ≡ false
  Natural (Deep p) = ⊥

  zero_digit : byte_at s at ≡ 48 → is_digit (byte_at s at) ≡ true
  unfolding is_digit
  zero_digit h = rw h

  natural_is : Natural (natural_at s at)
  unfolding natural_at
  natural_is = first (eqb (byte_at s at) 48) refl
    where
      more : (t : Bool) → is_digit (byte_at s at) ≡ t → Natural (elim t [ true ↦ Value (past is_digit s (at + 1)) | false ↦ Fault at ])
      more true h = h
      more false h = h

      first : (t : Bool) → eqb (byte_at s at) 48 ≡ t → Natural (elim t [
        | true ↦ Value (at + 1)
        | false ↦ elim (is_digit (byte_at s at)) [ true ↦ Value (past is_digit s (at + 1)) | false ↦ Fault at ]
      ])
      first true h = zero_digit (eqb-true _ _ h)
      first false h = more (is_digit (byte_at s at)) refl

  -- what reading the digits there says
  module _ (r : Numeral) (hr : r ≡ numeral_at s at) where
    pub numeral_ends : r.ended ≡ natural_at s at
    numeral_ends = ap (λ (x : Numeral). x.ended) hr

    pub numeral_number : (e : ℕ) → natural_at s at ≡ Value e → r.number ≡ number (decimal (part s at e))
    numeral_number e he = ap (λ (x : Numeral). x.number) hr ∙ ap (number_of_numeral s at) he

    pub numeral_there : (e : ℕ) → r.ended ≡ Value e → kind_of (byte_at s at) ≡ Digit
    numeral_there e he = digit_kind (byte_at s at) (subst Natural (sym numeral_ends ∙ he) natural_is)

    pub no_numeral : OneOf (1 ∷ 2 ∷ []) (tag_of parsed.the_type r.ended) → is_digit (byte_at s at) ≡ false
    no_numeral o = go r.ended (stops r.ended o) (subst Natural (sym numeral_ends) natural_is)
      where
        go : (p : Parsed) → Stops p → Natural p → is_digit (byte_at s at) ≡ false
        go (Value e) h n = absurd h
        go (Fault e) h n = n
        go (Deep e) h n = absurd n

-- ---- the dimension that they are, by the first byte
module _ (s : List ℕ) (at : ℕ) (d : Result ℕ Refusal) where
  abbrev after_sign : Result ℕ Refusal
  after_sign = cond (eqb (byte_at s at) 45) (negative_of (numeral_at s (at + 1)).number) (Err Refusal.NotShape)

  pub member_digit : (r : Numeral) → r ≡ numeral_at s at → (e : ℕ) → r.ended ≡ Value e → d ≡ positive_of r.number → d ≡ member_at s at
  member_digit r hr e he hd =
      let t = subst (Natural s at) (sym (numeral_ends s at r hr) ∙ he) (natural_is s at) in
      hd ∙ (ap (λ (x : Numeral). positive_of x.number) hr ∙ sym (ap (λ (b : Bool). cond b (positive_of (numeral_at s at).number) after_sign) t))

  module _ (no : is_digit (byte_at s at) ≡ false) where
    no_digit : after_sign ≡ member_at s at
    no_digit = sym (ap (λ (b : Bool). cond b (positive_of (numeral_at s at).number) after_sign) no)

    pub member_minus : (r : Numeral) → r ≡ numeral_at s (at + 1) → byte_at s at ≡ 45 → d ≡ negative_of r.number → d ≡ member_at s at
    member_minus r hr hb hd =
        hd ∙ (ap (λ (x : Numeral). negative_of x.number) hr ∙ (sym (ap (λ (b : Bool). cond b (negative_of (numeral_at s (at + 1)).number) (Err Refusal.NotShape)) (eq-eqb _ _ hb)) ∙ no_digit))

    pub member_none : (byte_at s at ≡ 45 → ⊥) → Err Refusal.NotShape ≡ member_at s at
    member_none hb = sym (ap (λ (b : Bool). cond b (negative_of (numeral_at s (at + 1)).number) (Err Refusal.NotShape)) (ne_eqb _ _ hb)) ∙ no_digit

-- ---- the value at a byte that opens no bracket ends as the token there
abbrev pub is_bracket : ValueKind → Bool
is_bracket Square = true
is_bracket Round = true
is_bracket Curly = true
is_bracket Quote = false
is_bracket Minus = false
is_bracket Digit = false
is_bracket TrueWord = false
is_bracket FalseWord = false
is_bracket NoneWord = false
is_bracket Other = false

no_open : (b : ℕ) → is_bracket (kind_of b) ≡ false → is_open b ≡ false
unfolding kind_of is_open
no_open b h = go (eqb b 91) (eqb b 40) (eqb b 123) _ h
  where
    go : (t u v : Bool) (rest : ValueKind) → is_bracket (cond t Square (cond u Round (cond v Curly rest))) ≡ false → (t || u || v) ≡ false
    go true u v rest e = true_false e
    go false true v rest e = true_false e
    go false false true rest e = true_false e
    go false false false rest e = refl

pub token_value : (k : ℕ) (s : List ℕ) (at : ℕ) (c : ValueKind) → kind_of (byte_at s at) ≡ c → is_bracket c ≡ false → token_end s at c ≡ pos (value k s at)
token_value k s at c h n = token_ends s at c h ∙ ap pos (value_token s at k (no_open (byte_at s at) (ap is_bracket h ∙ n)))

-- ---- the dimension of a value, by its kind
module _ (k : ℕ) (s : List ℕ) (at e : ℕ) (n : Node) (h : value k s at ≡ got n e) where
  forgotten : {m : Node} → n ≡ m → dimension (forget n) ≡ dimension (forget m)
  forgotten z = ap (λ (x : Node). dimension (forget x)) z

  pub dimension_digit : (d : Outcome ℕ) → kind_of (byte_at s at) ≡ Digit → ((e : ℕ) → natural_at s at ≡ Value e → d ≡ signed false (decimal (part s at e))) → d ≡ dimension (forget n)
  unfolding forget
  dimension_digit d hk f = let v = view k s at h hk in f e v.1 ∙ sym (forgotten v.0)

  pub dimension_minus : (d : Outcome ℕ) → kind_of (byte_at s at) ≡ Minus → ((e : ℕ) → natural_at s (at + 1) ≡ Value e → d ≡ signed true (decimal (part s (at + 1) e))) → d ≡ dimension (forget n)
  unfolding forget
  dimension_minus d hk f = let v = view k s at h hk in f e v.1 ∙ sym (forgotten v.0)

  other_by : (c : ValueKind) → is_integer c ≡ false → View c k s at n e → refused 11 ≡ dimension (forget n)
  unfolding forget
  other_by Square o v = sym (forgotten v.2)
  other_by Round o v = sym (forgotten v.2)
  other_by Curly o v = sym (forgotten v.2)
  other_by Quote o v = sym (forgotten v.0)
  other_by TrueWord o v = sym (forgotten v)
  other_by FalseWord o v = sym (forgotten v)
  other_by NoneWord o v = sym (forgotten v)
  other_by Other o v = absurd v
  other_by Minus o v = true_false o
  other_by Digit o v = true_false o

  pub dimension_other : (byte_at s at ≡ 45 → ⊥) → is_digit (byte_at s at) ≡ false → refused 11 ≡ dimension (forget n)
  dimension_other hm hd = other_by (kind_of (byte_at s at)) (no_integer (byte_at s at) hm hd) (view k s at h refl)

-- ---- the bracket that closes
-- every kind but a list's and a tuple's
pub other_kind : (k : ValueKind) → OneOf (2 ∷ 3 ∷ 4 ∷ 5 ∷ 6 ∷ 7 ∷ 8 ∷ 9 ∷ []) (tag_of the_type k) → closing_of k ≡ 0
other_kind Square o = absurd (miss (2 ∷ 3 ∷ 4 ∷ 5 ∷ 6 ∷ 7 ∷ 8 ∷ 9 ∷ []) 0 tt o)
other_kind Round o = absurd (miss (2 ∷ 3 ∷ 4 ∷ 5 ∷ 6 ∷ 7 ∷ 8 ∷ 9 ∷ []) 1 tt o)
other_kind Curly o = refl
other_kind Quote o = refl
other_kind Minus o = refl
other_kind Digit o = refl
other_kind TrueWord o = refl
other_kind FalseWord o = refl
other_kind NoneWord o = refl
other_kind Other o = refl
