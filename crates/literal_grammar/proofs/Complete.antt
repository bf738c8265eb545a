-- What the grammar gives is read: by the laws for each way out of a reader in Tokens, Between and Pairs, along the derivation. Only a number depends on what follows it:
-- no digit may. A value begins with a byte of some kind, so with no blank and no closing bracket.
use Prim.Native.Nat.{ℕ, zero, suc, ◌<◌}
use mathlib.Core.Path.{◌≡◌, refl, sym, ap, ◌∙◌, subst}
use mathlib.Core.Logic.{◌⊎◌, inl, inr}
use mathlib.Core.List.{List, [], ◌∷◌, ◌++◌, append_assoc}
use mathlib.Core.Bool.{Bool, true, false}
use lib.ListN.{length}
use lib.Dec.{eqb}
use borrow.Author.Tests.{eqb-true}
use Rattle.counts.proofs.Alike.{true_false}
use Rattle.decimal.specs.Decimal.{is_digit}
use Rattle.literal_grammar.specs.Bytes.{is_blank, is_quote}
use Rattle.literal_grammar.specs.Value.{Value, string, integer, True, False, None}
use Rattle.literal_grammar.proofs.Lists.{Item}
use Rattle.literal_grammar.specs.Grammar.{Natural, nought, nonzero, Plain, in_quotes, unsigned, minus_sign, word_true, word_false, word_none}
use Rattle.literal_grammar.specs.Promise.{got, deep}
use Rattle.literal_grammar.proofs.Texts.{case_of, Blanks, blank_by, head_of, tail_of}
use Rattle.literal_grammar.proofs.Layers.{padded, Parted, empty, last, more, Pair, pair, item, upto, Bracket, square, round, curly, list_of, tuple_of, dict_of, Layer}
use Rattle.literal_grammar.proofs.Reading.{Read, with, up_to, paired, Shape, Square, Round, Curly, bracketed, Kind, Digit, Quote, Minus, Other, Word, Opens, kind_of, chosen, value}
use Rattle.literal_grammar.proofs.Tokens.{natural_complete, word_over, quoted_complete}
use Rattle.literal_grammar.proofs.Between.{Closes, Rd, First, rd_shut, rd_last, rd_more, by_up_to, shorter, To}
use Rattle.literal_grammar.proofs.Pairs.{pair_colon}
use Rattle.literal_grammar.proofs.Values.{quote_byte, quote_slash, quote_kind, closes_square, closes_round, closes_curly, value_zero, value_suc, value_open}

-- no digit follows
abbrev pub Stop : List ℕ → Type 0
Stop r = is_digit (head_of r) ≡ false

pub stop_blanks : (b z : List ℕ) → Blanks b → Stop z → Stop (b ++ z)
unfolding is_digit
stop_blanks [] z h st = st
stop_blanks (x ∷ b) z h st = blank_by (λ n. is_digit n ≡ false) refl refl refl refl x h.0

-- ---- the first byte of a value
abbrev is_other : Kind → Bool
is_other Digit = false
is_other Quote = false
is_other Minus = false
is_other Other = true
is_other (Word v w) = false
is_other (Opens h) = false

abbrev pub Starts : List ℕ → Type 0
Starts [] = ⊥
Starts (b ∷ u) = is_other (kind_of b) ≡ false

pub starts_on : (u r : List ℕ) → Starts u → Starts (u ++ r)
starts_on [] r h = absurd h
starts_on (b ∷ u) r h = h

blank_other : (b : ℕ) → is_blank b ≡ true → is_other (kind_of b) ≡ true
unfolding kind_of is_digit is_quote
blank_other = blank_by (λ b. is_other (kind_of b) ≡ true) refl refl refl refl

not_blank : (b : ℕ) → is_other (kind_of b) ≡ false → (is_blank b ≡ true) ⊎ (is_blank b ≡ false) → is_blank b ≡ false
not_blank b h (inl e) = true_false (sym (blank_other b e) ∙ h)
not_blank b h (inr e) = e

not_closing : (b c : ℕ) → Closes c → is_other (kind_of b) ≡ false → (eqb b c ≡ true) ⊎ (eqb b c ≡ false) → eqb b c ≡ false
not_closing b c shuts h (inl e) = true_false (sym (ap (λ n. is_other (kind_of n)) (eqb-true b c e) ∙ ap is_other shuts.other) ∙ h)
not_closing b c shuts h (inr e) = e

pub starts_blank : (u : List ℕ) → Starts u → is_blank (head_of u) ≡ false
starts_blank [] h = absurd h
starts_blank (b ∷ u) h = not_blank b h (case_of (is_blank b))

starts_closing : (u : List ℕ) (c : ℕ) → Closes c → Starts u → eqb (head_of u) c ≡ false
starts_closing [] c shuts h = absurd h
starts_closing (b ∷ u) c shuts h = not_closing b c shuts h (case_of (eqb b c))

-- ---- between brackets
abbrev Completes : {A : Type 0} → (List ℕ → A → Type 0) → (List ℕ → Read A) → Type 0
Completes {A} R rd = (u : List ℕ) (v : A) → R u v → (r : List ℕ) → Stop r → rd (u ++ r) ≡ got v r

module _ {A : Type 0} (R : List ℕ → A → Type 0) (rd : List ℕ → Read A) (starts : (u : List ℕ) (v : A) → R u v → Starts u) (complete : Completes R rd) (c : ℕ) (shuts : Closes c) where
  begins : (x r : List ℕ) (v : A) → R x v → First rd c shuts (x ++ r)
  begins x r v rx = let st = starts_on x r (starts x v rx) in (starts_blank (x ++ r) st, starts_closing (x ++ r) c shuts st)

  parted_complete : (lone : Bool) (u : List ℕ) (vs : List A) → Parted R lone u vs → (r : List ℕ) → Rd rd c shuts lone (u ++ (c ∷ r)) (got vs r)
  unfolding is_digit
  parted_complete lone u vs (empty a ba) r = rd_shut rd c shuts lone (a ++ (c ∷ r)) a r ba refl
  parted_complete lone u vs (last {v = v} (padded a x b ba rx bb)) r =
      let t : List ℕ = b ++ (c ∷ r) in
      rd_last rd c shuts ((a ++ (x ++ b)) ++ (c ∷ r)) a (x ++ t) b r v ba (begins x t v rx) bb (simp append_assoc) (complete x v rx t (stop_blanks b (c ∷ r) bb shuts.digit))
  parted_complete lone u vs (more {w = w} {v = v} {vs = ws} (padded a x b ba rx bb) i) r =
      let t : List ℕ = w ++ (c ∷ r) in
      let z : List ℕ = b ++ (44 ∷ t) in
      let e : (a ++ (x ++ b) ++ (44 ∷ w)) ++ (c ∷ r) ≡ a ++ (x ++ z) = simp append_assoc in
      rd_more rd c shuts lone ((a ++ (x ++ b) ++ (44 ∷ w)) ++ (c ∷ r)) a (x ++ z) b t v (got ws r) ba (begins x z v rx) bb e (complete x v rx z (stop_blanks b (44 ∷ t) bb refl))
      (subst (λ y. length t < length y) (sym e) (shorter a x b t)) (parted_complete true w ws i r)

  upto_complete : (lone : Bool) (u : List ℕ) (vs : List A) → To R c lone u vs → (r : List ℕ) → up_to rd c lone (u ++ r) ≡ got vs r
  upto_complete lone u vs (upto w i) r =
      let e : w ++ (c ∷ r) ≡ (w ++ (c ∷ [])) ++ r = simp append_assoc in
      subst (λ y. up_to rd c lone y ≡ got vs r) e (by_up_to rd c shuts lone (w ++ (c ∷ r)) (got vs r) (parted_complete lone w vs i r))

module _ (R : List ℕ → Value → Type 0) (rd : List ℕ → Read Value) (starts : (u : List ℕ) (v : Value) → R u v → Starts u) (complete : Completes R rd) where
  pair_starts : (u : List ℕ) (e : Item) → Pair R u e → Starts u
  pair_starts u e (pair x a b y rx ba bb ry) = starts_on x (a ++ (58 ∷ (b ++ y))) (starts x _ rx)

  pair_complete : Completes (Pair R) (paired rd)
  unfolding is_digit
  pair_complete u e (pair x a b y {k = k} {v = v} rx ba bb ry) r st =
      let t : List ℕ = a ++ (58 ∷ (b ++ (y ++ r))) in
      let z : x ++ t ≡ (x ++ (a ++ (58 ∷ (b ++ y)))) ++ r = simp append_assoc in
      subst (λ q. paired rd q ≡ got (item k v) r) z
      (pair_colon rd (x ++ t) a b (y ++ r) k (got v r) ba bb (starts_blank (y ++ r) (starts_on y r (starts y v ry))) (complete x k rx t (stop_blanks a (58 ∷ (b ++ (y ++ r))) ba refl)) (complete y v ry r st))

-- ---- values without brackets
kind_starts : (b : ℕ) (κ : Kind) → is_other κ ≡ false → kind_of b ≡ κ → is_other (kind_of b) ≡ false
kind_starts b κ h e = ap is_other e ∙ h

digit_kind : (d : ℕ) → is_digit d ≡ true → kind_of d ≡ Digit
unfolding kind_of
digit_kind d h = rw (kind_of, h)

natural_starts : (u : List ℕ) (n : ℕ) → Natural u n → Starts u
unfolding is_digit
natural_starts u n nought = kind_starts 48 Digit refl (digit_kind 48 refl)
natural_starts u n (nonzero {d = d} hd nd dw) = kind_starts d Digit refl (digit_kind d hd)

natural_kind : (u r : List ℕ) (n : ℕ) → Natural u n → kind_of (head_of (u ++ r)) ≡ Digit
unfolding is_digit
natural_kind u r n nought = digit_kind 48 refl
natural_kind u r n (nonzero {d = d} hd nd dw) = digit_kind d hd

plain_starts : (u : List ℕ) (v : Value) → Plain u v → Starts u
unfolding kind_of is_digit is_quote
plain_starts u v (in_quotes {q = q} h x) = kind_starts q Quote refl (quote_kind q h)
plain_starts u v (unsigned x) = natural_starts _ _ x
plain_starts u v (minus_sign x) = refl
plain_starts u v word_true = refl
plain_starts u v word_false = refl
plain_starts u v word_none = refl

plain_complete : (u : List ℕ) (v : Value) → Plain u v → (r : List ℕ) → Stop r → (inner : Shape → Read Value) → chosen (kind_of (head_of (u ++ r))) (u ++ r) inner ≡ got v r
unfolding kind_of is_digit is_quote
plain_complete u v (in_quotes {q = q} {u = y} {w = w} h x) r st inner =
    ap (λ κ. chosen κ (q ∷ (y ++ r)) inner) (quote_kind q h) ∙ ap (with string) (quoted_complete q (quote_byte q h) (quote_slash q h) y w x r)
plain_complete u v (unsigned {u = y} {n = n} x) r st inner = ap (λ κ. chosen κ (y ++ r) inner) (natural_kind y r n x) ∙ ap (with (integer false)) (natural_complete y n x r st)
plain_complete u v (minus_sign {u = y} {n = n} x) r st inner = ap (with (integer true)) (natural_complete y n x r st)
plain_complete u v word_true r st inner = word_over True (84 ∷ 114 ∷ 117 ∷ 101 ∷ []) r
plain_complete u v word_false r st inner = word_over False (70 ∷ 97 ∷ 108 ∷ 115 ∷ 101 ∷ []) r
plain_complete u v word_none r st inner = word_over None (78 ∷ 111 ∷ 110 ∷ 101 ∷ []) r

-- ---- values
bracket_starts : (R : List ℕ → Value → Type 0) (u : List ℕ) (v : Value) → Bracket R u v → Starts u
unfolding kind_of is_digit is_quote
bracket_starts R u v (square x) = refl
bracket_starts R u v (round x) = refl
bracket_starts R u v (curly x) = refl

pub value_starts : (k : ℕ) (u : List ℕ) (v : Value) → Layer k u v → Starts u
value_starts zero u v x = plain_starts u v x
value_starts (suc k) u v (inl x) = plain_starts u v x
value_starts (suc k) u v (inr x) = bracket_starts (Layer k) u v x

bracket_complete : (k : ℕ) → Completes (Layer k) (value k) → (u : List ℕ) (v : Value) → Bracket (Layer k) u v → (r : List ℕ) → value (suc k) (u ++ r) ≡ got v r
unfolding bracketed
bracket_complete k complete u v (square {u = y} {vs = vs} x) r = value_open k Square (y ++ r) ∙ ap (with list_of) (upto_complete (Layer k) (value k) (value_starts k) complete 93 closes_square true y vs x r)
bracket_complete k complete u v (round {u = y} {vs = vs} x) r = value_open k Round (y ++ r) ∙ ap (with tuple_of) (upto_complete (Layer k) (value k) (value_starts k) complete 41 closes_round false y vs x r)
bracket_complete k complete u v (curly {u = y} {es = es} x) r =
    value_open k Curly (y ++ r) ∙ ap (with dict_of) (upto_complete (Pair (Layer k)) (paired (value k)) (pair_starts (Layer k) (value k) (value_starts k) complete) (pair_complete (Layer k) (value k) (value_starts k) complete) 125 closes_curly true y es x r)

pub value_complete : (k : ℕ) → Completes (Layer k) (value k)
value_complete zero u v x r st = value_zero (u ++ r) ∙ plain_complete u v x r st (λ h. deep (u ++ r))
value_complete (suc k) u v (inl x) r st = value_suc k (u ++ r) ∙ plain_complete u v x r st (λ h. bracketed (value k) h (tail_of (u ++ r)))
value_complete (suc k) u v (inr x) r st = bracket_complete k (value_complete k) u v x r
