-- The claim of Faithful.antt for the reader of a value, by the kind of the first byte and, between brackets, by the limit. If no bracket may be open, an opening one
-- is refused with 7, and with one more bracket allowed an empty list, tuple or dict is possible there.
use Prim.Native.Nat.{ℕ, zero, suc, ◌<◌}
use native.Mathlib.Omega.{arith}
use mathlib.Core.Path.{◌≡◌, refl, sym, ap, ◌∙◌, subst}
use mathlib.Core.Logic.{inl, inr}
use mathlib.Core.List.{List, [], ◌∷◌}
use mathlib.Core.Bool.{Bool, true, false, cond}
use lib.Dec.{eqb}
use borrow.Author.Tests.{eqb-true}
use Rattle.decimal.specs.Decimal.{is_digit}
use Rattle.literal_grammar.specs.Bytes.{is_blank, is_quote, is_open}
use Rattle.literal_grammar.specs.Value.{Value, string, integer, True, False, None}
use Rattle.literal_grammar.specs.Grammar.{Natural, nought, Plain, in_quotes, unsigned, minus_sign, word_true, word_false, word_none}
use Rattle.counts.specs.Lists.{AllBytes}
use Rattle.literal_grammar.specs.Promise.{Completable, fault, deep}
use Rattle.literal_grammar.proofs.Texts.{head_of, tail_of, head_is, Alike, alike_head, alike_cons, quote_by}
use Rattle.literal_grammar.proofs.Layers.{empty, Pair, pair_sub, upto, Bracket, square, round, curly, list_of, tuple_of, dict_of, Layer, plain_in, deeper}
use Rattle.literal_grammar.proofs.Reading.{Read, with, natural, word, quoted, up_to, paired, Shape, Square, Round, Curly, bracketed, Kind, Digit, Quote, Minus, Other, Word, Opens, kind_of, chosen, value}
use Rattle.literal_grammar.proofs.Faithful.{By, Faithful, moved, faithful_map}
use Rattle.literal_grammar.proofs.Tokens.{with_same, faithful_natural, Is, faithful_word, Rest, faithful_quoted}
use Rattle.literal_grammar.proofs.Between.{Closes, To, Rd, by_up_to, faithful_parted}
use Rattle.literal_grammar.proofs.Pairs.{faithful_pair}

-- ---- the kind of a byte
abbrev pub opening : Shape → ℕ
opening Square = 91
opening Round = 40
opening Curly = 123

-- what a byte of a kind is
abbrev KindIs : ℕ → Kind → Type 0
KindIs b Digit = Unit {0}
KindIs b Quote = is_quote b ≡ true
KindIs b Minus = eqb b 45 ≡ true
KindIs b Other = Unit {0}
KindIs b (Word v w) = Plain w v × AllBytes w
KindIs b (Opens h) = eqb b (opening h) ≡ true

picks : (P : Kind → Type 0) (test : Bool) (x y : Kind) → (test ≡ true → P x) → P y → P (cond test x y)
picks P true x y px py = px refl
picks P false x y px py = py

kind_is : (b : ℕ) → KindIs b (kind_of b)
unfolding kind_of
kind_is b =
    picks (KindIs b) (is_digit b) Digit _ (λ h. tt)
    (picks (KindIs b) (is_quote b) Quote _ (λ h. h)
    (picks (KindIs b) (eqb b 45) Minus _ (λ h. h)
    (picks (KindIs b) (eqb b 91) (Opens Square) _ (λ h. h)
    (picks (KindIs b) (eqb b 40) (Opens Round) _ (λ h. h)
    (picks (KindIs b) (eqb b 123) (Opens Curly) _ (λ h. h)
    (picks (KindIs b) (eqb b 84) (Word True (84 ∷ 114 ∷ 117 ∷ 101 ∷ [])) _ (λ h. (word_true, (omega arith, (omega arith, (omega arith, (omega arith, tt))))))
    (picks (KindIs b) (eqb b 70) (Word False (70 ∷ 97 ∷ 108 ∷ 115 ∷ 101 ∷ [])) _ (λ h. (word_false, (omega arith, (omega arith, (omega arith, (omega arith, (omega arith, tt)))))))
    (picks (KindIs b) (eqb b 78) (Word None (78 ∷ 111 ∷ 110 ∷ 101 ∷ [])) Other (λ h. (word_none, (omega arith, (omega arith, (omega arith, (omega arith, tt)))))) tt))))))))

pub quote_byte : (q : ℕ) → is_quote q ≡ true → q < 256
quote_byte = quote_by (λ q. q < 256) (omega arith) (omega arith)

pub quote_slash : (q : ℕ) → is_quote q ≡ true → eqb 92 q ≡ false
quote_slash = quote_by (λ q. eqb 92 q ≡ false) refl refl

pub quote_kind : (q : ℕ) → is_quote q ≡ true → kind_of q ≡ Quote
unfolding kind_of is_digit is_quote
quote_kind = quote_by (λ q. kind_of q ≡ Quote) refl refl

-- a text whose first byte is a quote is that quote and a rest
quote_cons : (s : List ℕ) → is_quote (head_of s) ≡ true → s ≡ head_of s ∷ tail_of s
unfolding is_quote
quote_cons [] h = absurd (let z : ◌≡◌ {A = ℕ} 0 1 = cc in omega arith)
quote_cons (b ∷ s) h = refl

pub closes_square : Closes 93
unfolding is_blank is_digit kind_of is_quote
closes_square = record { blank = refl; comma = refl; digit = refl; other = refl; small = omega arith }

pub closes_round : Closes 41
unfolding is_blank is_digit kind_of is_quote
closes_round = record { blank = refl; comma = refl; digit = refl; other = refl; small = omega arith }

pub closes_curly : Closes 125
unfolding is_blank is_digit kind_of is_quote
closes_curly = record { blank = refl; comma = refl; digit = refl; other = refl; small = omega arith }

-- `0` completes where nothing is read yet
zero_byte : AllBytes (48 ∷ [])
zero_byte = (omega arith, tt)

-- ---- a value, given what follows an opening bracket
module _ (P P⁺ : List ℕ → Value → Type 0) (in_p : (u : List ℕ) (v : Value) → Plain u v → P u v) (inP⁺ : (u : List ℕ) (v : Value) → Plain u v → P⁺ u v)
    (val : List ℕ → Read Value) (inner : List ℕ → Shape → Read Value) (val_is : (s : List ℕ) → val s ≡ chosen (kind_of (head_of s)) s (inner s)) where
  val_at : (κ : Kind) (s : List ℕ) → kind_of (head_of s) ≡ κ → val s ≡ chosen κ s (inner s)
  val_at κ s h = val_is s ∙ ap (λ x. chosen x s (inner s)) h

  val_alike : (κ : Kind) (s y : List ℕ) → kind_of (head_of s) ≡ κ → Alike s y → val y ≡ chosen κ y (inner y)
  val_alike κ s y h al = val_at κ y (ap kind_of (alike_head s y al) ∙ h)

  faithful_kind : ((h : Shape) (s : List ℕ) → kind_of (head_of s) ≡ Opens h → eqb (head_of s) (opening h) ≡ true → Faithful P P⁺ (By val) s) → (κ : Kind) (s : List ℕ) → kind_of (head_of s) ≡ κ → KindIs (head_of s) κ → Faithful P P⁺ (By val) s
  faithful_kind told_open Digit s h is =
      faithful_map Natural Natural P P⁺ (By natural) (By val) [] (integer false) s (λ u n x. in_p u (integer false n) (unsigned x)) (λ u n x. inP⁺ u (integer false n) (unsigned x))
      (λ y g al hy. val_alike Digit s y h al ∙ ap (with (integer false)) hy) (faithful_natural s)
  faithful_kind told_open Quote s h is =
      let q : ℕ = head_of s in
      let S = Rest q (quote_byte q is) (quote_slash q is) false in
      let e = quote_cons s is in
      moved P P⁺ (By val) e
      (faithful_map S S P P⁺ (By (quoted q false)) (By val) (q ∷ []) string (tail_of s) (λ u w x. in_p (q ∷ u) (string w) (in_quotes is x)) (λ u w x. inP⁺ (q ∷ u) (string w) (in_quotes is x))
      (λ y g al hy. val_at Quote (q ∷ y) h ∙ ap (with string) hy) (faithful_quoted q (quote_byte q is) (quote_slash q is) (tail_of s) false))
  faithful_kind told_open Minus s h is =
      let e = head_is s 45 (omega arith) is in
      moved P P⁺ (By val) e
      (faithful_map Natural Natural P P⁺ (By natural) (By val) (45 ∷ []) (integer true) (tail_of s) (λ u n x. in_p (45 ∷ u) (integer true n) (minus_sign x)) (λ u n x. inP⁺ (45 ∷ u) (integer true n) (minus_sign x))
      (λ y g al hy. val_alike Minus s (45 ∷ y) h (alike_cons 45 s y e) ∙ ap (with (integer true)) hy) (faithful_natural (tail_of s)))
  faithful_kind told_open Other s h is = (fault s, ([], refl, (48 ∷ [], integer false 0, zero_byte, in_p (48 ∷ []) (integer false 0) (unsigned nought)), λ r al. val_alike Other s r h al))
  faithful_kind told_open (Word x w) s h (px, small) =
      faithful_map (Is x w) (Is x w) P P⁺ (By (word x w)) (By val) [] (λ z. z) s
      (λ u z e. in_p u z (subst (λ a. Plain a z) (sym e.0) (subst (Plain w) (sym e.1) px)))
      (λ u z e. inP⁺ u z (subst (λ a. Plain a z) (sym e.0) (subst (Plain w) (sym e.1) px)))
      (λ y g al hy. val_alike (Word x w) s y h al ∙ hy ∙ sym (with_same g)) (faithful_word x w small s)
  faithful_kind told_open (Opens sh) s h is = told_open sh s h is

-- ---- no bracket may be open
pub value_zero : (s : List ℕ) → value 0 s ≡ chosen (kind_of (head_of s)) s (λ h. deep s)
unfolding value
value_zero s = refl

-- an empty list, tuple or dict
emptied : (h : Shape) → Completable (Layer 1) (opening h ∷ [])
emptied Square = (93 ∷ [], list_of [], (omega arith, tt), inr (square (upto [] (empty [] tt))))
emptied Round = (41 ∷ [], tuple_of [], (omega arith, tt), inr (round (upto [] (empty [] tt))))
emptied Curly = (125 ∷ [], dict_of [], (omega arith, tt), inr (curly (upto [] (empty [] tt))))

opens : (h : Shape) → is_open (opening h) ≡ true
unfolding is_open
opens Square = refl
opens Round = refl
opens Curly = refl

faithful_too_deep : (h : Shape) (s : List ℕ) → kind_of (head_of s) ≡ Opens h → eqb (head_of s) (opening h) ≡ true → Faithful (Layer 0) (Layer 1) (By (value 0)) s
faithful_too_deep h s hk is =
    let e : opening h ≡ head_of s = sym (eqb-true (head_of s) (opening h) is) in
    (deep s, ([], refl, (48 ∷ [], integer false 0, zero_byte, unsigned nought), subst (λ x. Completable (Layer 1) (x ∷ [])) e (emptied h), subst (λ x. is_open x ≡ true) e (opens h), λ r al. value_zero r ∙ ap (λ x. chosen x r (λ h. deep r)) (ap kind_of (alike_head s r al) ∙ hk)))

-- ---- brackets may be open
pub value_suc : (k : ℕ) (s : List ℕ) → value (suc k) s ≡ chosen (kind_of (head_of s)) s (λ h. bracketed (value k) h (tail_of s))
unfolding value
value_suc k s = refl

pub value_open : (k : ℕ) (h : Shape) (y : List ℕ) → value (suc k) (opening h ∷ y) ≡ bracketed (value k) h y
unfolding value kind_of is_digit is_quote
value_open k Square y = refl
value_open k Round y = refl
value_open k Curly y = refl

faithful_item : (k : ℕ) → ((s : List ℕ) → Faithful (Layer k) (Layer (suc k)) (By (value k)) s) → (s : List ℕ) → Faithful (Pair (Layer k)) (Pair (Layer (suc k))) (By (paired (value k))) s
faithful_item k ih = faithful_pair (Layer k) (Layer (suc k)) (deeper k) (value k) ih (integer false 0) (plain_in k (48 ∷ []) (integer false 0) (unsigned nought))

module _ (k : ℕ) (ih : (s : List ℕ) → Faithful (Layer k) (Layer (suc k)) (By (value k)) s) where
  -- after the opening bracket of h, things that rd reads, up to c
  faithful_after : {A : Type 0} (h : Shape) (c : ℕ) (shuts : Closes c) (lone : Bool) (R R⁺ : List ℕ → A → Type 0) (rd : List ℕ → Read A) (made : List A → Value)
      → ((u : List ℕ) (vs : List A) → To R c lone u vs → Bracket (Layer k) (opening h ∷ u) (made vs)) → ((u : List ℕ) (vs : List A) → To R⁺ c lone u vs → Bracket (Layer (suc k)) (opening h ∷ u) (made vs))
      → ((y : List ℕ) → bracketed (value k) h y ≡ with made (up_to rd c lone y)) → ((s : List ℕ) → Faithful (To R c lone) (To R⁺ c lone) (Rd rd c shuts lone) s)
      → (s : List ℕ) → s ≡ opening h ∷ tail_of s → Faithful (Layer (suc k)) (Layer (suc (suc k))) (By (value (suc k))) s
  faithful_after h c shuts lone R R⁺ rd made up up⁺ is_read matched s e =
      moved (Layer (suc k)) (Layer (suc (suc k))) (By (value (suc k))) e
      (faithful_map (To R c lone) (To R⁺ c lone) (Layer (suc k)) (Layer (suc (suc k))) (Rd rd c shuts lone) (By (value (suc k))) (opening h ∷ []) made (tail_of s) (λ u vs x. inr (up u vs x)) (λ u vs x. inr (up⁺ u vs x))
      (λ y g al hy. value_open k h y ∙ is_read y ∙ ap (with made) (by_up_to rd c shuts lone y g hy)) (matched (tail_of s)))

  faithful_bracket : (h : Shape) (s : List ℕ) → kind_of (head_of s) ≡ Opens h → eqb (head_of s) (opening h) ≡ true → Faithful (Layer (suc k)) (Layer (suc (suc k))) (By (value (suc k))) s
  unfolding bracketed
  faithful_bracket Square s hk is =
      faithful_after Square 93 closes_square true (Layer k) (Layer (suc k)) (value k) list_of (λ u vs x. square x) (λ u vs x. square x) (λ y. refl)
      (faithful_parted (Layer k) (Layer (suc k)) (deeper k) (value k) ih 93 closes_square true) s (head_is s 91 (omega arith) is)
  faithful_bracket Round s hk is =
      faithful_after Round 41 closes_round false (Layer k) (Layer (suc k)) (value k) tuple_of (λ u vs x. round x) (λ u vs x. round x) (λ y. refl)
      (faithful_parted (Layer k) (Layer (suc k)) (deeper k) (value k) ih 41 closes_round false) s (head_is s 40 (omega arith) is)
  faithful_bracket Curly s hk is =
      faithful_after Curly 125 closes_curly true (Pair (Layer k)) (Pair (Layer (suc k))) (paired (value k)) dict_of (λ u es x. curly x) (λ u es x. curly x) (λ y. refl)
      (faithful_parted (Pair (Layer k)) (Pair (Layer (suc k))) (pair_sub (Layer k) (Layer (suc k)) (deeper k)) (paired (value k)) (faithful_item k ih) 125 closes_curly true) s (head_is s 123 (omega arith) is)

pub faithful_value : (k : ℕ) (s : List ℕ) → Faithful (Layer k) (Layer (suc k)) (By (value k)) s
faithful_value zero s = faithful_kind (Layer 0) (Layer 1) (λ u v x. x) (λ u v x. inl x) (value 0) (λ t h. deep t) value_zero faithful_too_deep (kind_of (head_of s)) s refl (kind_is (head_of s))
faithful_value (suc k) s =
    faithful_kind (Layer (suc k)) (Layer (suc (suc k))) (λ u v x. inl x) (λ u v x. inl x) (value (suc k)) (λ t h. bracketed (value k) h (tail_of t)) (value_suc k) (faithful_bracket k (faithful_value k)) (kind_of (head_of s)) s refl (kind_is (head_of s))
