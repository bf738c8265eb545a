-- Blanks, numbers, words and strings: a law for each way out of their readers, by how the text is made up, and the claim of Faithful.antt for each reader.
use Prim.Native.Nat.{ℕ, ◌<◌}
use native.Mathlib.Omega.{arith}
use mathlib.Core.Path.{◌≡◌, refl, sym, ap, ◌∙◌, subst}
use mathlib.Core.Logic.{◌⊎◌, inl, inr}
use mathlib.Core.List.{List, [], ◌∷◌, ◌++◌}
use mathlib.Core.Bool.{Bool, true, false}
use lib.Dec.{eqb}
use borrow.Author.Tests.{eq-eqb, eqb-true}
use Rattle.decimal.specs.Decimal.{is_digit, digits_of, decimal}
use Rattle.literal_grammar.specs.Bytes.{is_blank, is_break, is_escape, unescape}
use Rattle.literal_grammar.specs.Value.{Value}
use Rattle.literal_grammar.specs.Grammar.{All, Natural, nought, nonzero, Quoted, closed, raw, escaped}
use Rattle.counts.specs.Lists.{AllBytes}
use Rattle.counts.proofs.Alike.{true_false}
use Rattle.literal_grammar.specs.Promise.{Completable, got, fault, deep}
use Rattle.literal_grammar.proofs.Texts.{case_of, Blanks, head_of, tail_of, head_is, Alike, alike_head, run}
use Rattle.literal_grammar.proofs.Reading.{Read, with, skip, after_digits, natural, word, quoted}
use Rattle.literal_grammar.proofs.Faithful.{By, Faithful, moved, faithful_map}

pub with_same : {A : Type 0} (g : Read A) → with (λ x. x) g ≡ g
with_same (got v r) = refl
with_same (fault r) = refl
with_same (deep r) = refl

-- ---- blanks
skip_over : (a r : List ℕ) → Blanks a → is_blank (head_of r) ≡ false → skip (a ++ r) ≡ r
unfolding skip
skip_over [] [] h n = refl
skip_over [] (b ∷ r) h n = rw (skip, n)
skip_over (b ∷ a) r h n = rw (skip, h.0) (skip_over a r h.1 n)

pub skips : (s a t : List ℕ) → Blanks a → is_blank (head_of t) ≡ false → s ≡ a ++ t → skip s ≡ t
skips s a t ba nt e = ap skip e ∙ skip_over a t ba nt

-- ---- numbers
digits_over : (u r : List ℕ) → All is_digit u → is_digit (head_of r) ≡ false → digits_of (u ++ r) ≡ u
unfolding digits_of
digits_over [] [] h n = refl
digits_over [] (b ∷ r) h n = rw (digits_of, n)
digits_over (b ∷ u) r h n = rw (digits_of, h.0, digits_over u r h.1 n)

after_over : (u r : List ℕ) → All is_digit u → is_digit (head_of r) ≡ false → after_digits (u ++ r) ≡ r
unfolding after_digits
after_over [] [] h n = refl
after_over [] (b ∷ r) h n = rw (after_digits, n)
after_over (b ∷ u) r h n = rw (after_digits, h.0) (after_over u r h.1 n)

natural_nought : (r : List ℕ) → natural (48 ∷ r) ≡ got 0 r
unfolding natural
natural_nought r = refl

natural_nonzero : (d : ℕ) (u r : List ℕ) → is_digit d ≡ true → eqb d 48 ≡ false → All is_digit u → is_digit (head_of r) ≡ false → natural (d ∷ (u ++ r)) ≡ got (decimal (d ∷ u)) r
unfolding natural
natural_nonzero d u r hd nd hu hr = rw (natural, nd, hd, digits_over (d ∷ u) r (hd, hu) hr, after_over (d ∷ u) r (hd, hu) hr)

natural_bad : (r : List ℕ) → eqb (head_of r) 48 ≡ false → is_digit (head_of r) ≡ false → natural r ≡ fault r
unfolding natural
natural_bad r n d = rw (natural, n, d)

pub natural_complete : (u : List ℕ) (n : ℕ) → Natural u n → (r : List ℕ) → is_digit (head_of r) ≡ false → natural (u ++ r) ≡ got n r
natural_complete u n nought r st = natural_nought r
natural_complete u n (nonzero {d = d} {u = w} hd nd dw) r st = natural_nonzero d w r hd nd dw st

digit_cons : (s : List ℕ) → is_digit (head_of s) ≡ true → s ≡ head_of s ∷ tail_of s
unfolding is_digit
digit_cons [] h = true_false (sym h)
digit_cons (b ∷ s) h = refl

faithful_nonzero : (s : List ℕ) (d : ℕ) (t : List ℕ) → s ≡ d ∷ t → is_digit d ≡ true → eqb d 48 ≡ false → Faithful Natural Natural (By natural) s
faithful_nonzero s d t e hd nd =
    let (u, w, du, ew, nw) = run is_digit (unfold is_digit in refl) t in
    moved Natural Natural (By natural) e
    (got (decimal (d ∷ u)) w, (d ∷ u, ap (λ y. d ∷ y) ew, nonzero hd nd du, λ r al. natural_nonzero d u r hd nd du (subst (λ x. is_digit x ≡ false) (sym (alike_head w r al)) nw)))

faithful_digit : (s : List ℕ) → eqb (head_of s) 48 ≡ false → (is_digit (head_of s) ≡ true) ⊎ (is_digit (head_of s) ≡ false) → Faithful Natural Natural (By natural) s
faithful_digit s n (inl h) = faithful_nonzero s (head_of s) (tail_of s) (digit_cons s h) h n
faithful_digit s n (inr h) =
    (fault s, ([], refl, (48 ∷ [], 0, (omega arith, tt), nought), λ r al. let e = sym (alike_head s r al) in natural_bad r (subst (λ x. eqb x 48 ≡ false) e n) (subst (λ x. is_digit x ≡ false) e h)))

faithful_nought : (s : List ℕ) → (eqb (head_of s) 48 ≡ true) ⊎ (eqb (head_of s) 48 ≡ false) → Faithful Natural Natural (By natural) s
faithful_nought s (inl h) = (got 0 (tail_of s), (48 ∷ [], head_is s 48 (omega arith) h, nought, λ r al. natural_nought r))
faithful_nought s (inr h) = faithful_digit s h (case_of (is_digit (head_of s)))

pub faithful_natural : (s : List ℕ) → Faithful Natural Natural (By natural) s
faithful_natural s = faithful_nought s (case_of (eqb (head_of s) 48))

-- ---- words: the text w, and the value v
abbrev pub Is : Value → List ℕ → List ℕ → Value → Type 0
Is v w u x = (u ≡ w) × (x ≡ v)

pub word_over : (v : Value) (w r : List ℕ) → word v w (w ++ r) ≡ got v r
unfolding word
word_over v [] r = refl
word_over v (c ∷ w) r = rw (word, eq-eqb c c refl) (word_over v w r)

word_on : (v : Value) (c : ℕ) (w y : List ℕ) (g : Read Value) → word v w y ≡ g → word v (c ∷ w) (c ∷ y) ≡ with (λ x. x) g
unfolding word
word_on v c w y g h = rw (word, eq-eqb c c refl) (h ∙ sym (with_same g))

word_bad : (v : Value) (c : ℕ) (w r : List ℕ) → eqb (head_of r) c ≡ false → word v (c ∷ w) r ≡ fault r
unfolding word
word_bad v c w r h = rw (word, h)

word_letter : (v : Value) (c : ℕ) (w s : List ℕ) → AllBytes (c ∷ w) → (eqb (head_of s) c ≡ true) ⊎ (eqb (head_of s) c ≡ false) → Faithful (Is v w) (Is v w) (By (word v w)) (tail_of s) → Faithful (Is v (c ∷ w)) (Is v (c ∷ w)) (By (word v (c ∷ w))) s
word_letter v c w s lt (inl h) ih =
    moved (Is v (c ∷ w)) (Is v (c ∷ w)) (By (word v (c ∷ w))) (head_is s c lt.0 h)
    (faithful_map (Is v w) (Is v w) (Is v (c ∷ w)) (Is v (c ∷ w)) (By (word v w)) (By (word v (c ∷ w))) (c ∷ []) (λ x. x) (tail_of s)
    (λ u x e. (ap (λ y. c ∷ y) e.0, e.1)) (λ u x e. (ap (λ y. c ∷ y) e.0, e.1)) (λ y g al hy. word_on v c w y g hy) ih)
word_letter v c w s lt (inr h) ih = (fault s, ([], refl, (c ∷ w, v, lt, (refl, refl)), λ r al. word_bad v c w r (subst (λ x. eqb x c ≡ false) (sym (alike_head s r al)) h)))

pub faithful_word : (v : Value) (w : List ℕ) → AllBytes w → (s : List ℕ) → Faithful (Is v w) (Is v w) (By (word v w)) s
unfolding word
faithful_word v [] lt s = (got v s, ([], refl, (refl, refl), λ r al. refl))
faithful_word v (c ∷ w) lt s = word_letter v c w s lt (case_of (eqb (head_of s) c)) (faithful_word v w lt.1 (tail_of s))

-- ---- strings in the quote q, which is no backslash
module _ (q : ℕ) (q_byte : q < 256) (q_slash : eqb 92 q ≡ false) where
  -- what may follow, where `slash` says that a backslash comes before it
  abbrev pub Rest : Bool → List ℕ → List ℕ → Type 0
  Rest false u w = Quoted q u w
  Rest true u w = Quoted q (92 ∷ u) w

  quoted_closed : (r : List ℕ) → quoted q false (q ∷ r) ≡ got [] r
  unfolding quoted
  quoted_closed r = rw (quoted, eq-eqb q q refl)

  quoted_raw : (b : ℕ) (y : List ℕ) (g : Read (List ℕ)) → eqb b q ≡ false → eqb b 92 ≡ false → is_break b ≡ false → quoted q false y ≡ g → quoted q false (b ∷ y) ≡ with (◌∷◌ b) g
  unfolding quoted
  quoted_raw b y g h1 h2 h3 h = rw (quoted, h1, h2, h3, h)

  quoted_slash : (y : List ℕ) (g : Read (List ℕ)) → quoted q true y ≡ g → quoted q false (92 ∷ y) ≡ with (λ x. x) g
  unfolding quoted
  quoted_slash y g h = rw (quoted, q_slash) (h ∙ sym (with_same g))

  quoted_escape : (b : ℕ) (y : List ℕ) (g : Read (List ℕ)) → is_escape b ≡ true → quoted q false y ≡ g → quoted q true (b ∷ y) ≡ with (◌∷◌ (unescape b)) g
  unfolding quoted
  quoted_escape b y g h1 h = rw (quoted, h1, h)

  quoted_escaped : (b : ℕ) (y : List ℕ) (g : Read (List ℕ)) → is_escape b ≡ true → quoted q false y ≡ g → quoted q false (92 ∷ (b ∷ y)) ≡ with (◌∷◌ (unescape b)) g
  quoted_escaped b y g h1 h = quoted_slash (b ∷ y) (with (◌∷◌ (unescape b)) g) (quoted_escape b y g h1 h) ∙ with_same (with (◌∷◌ (unescape b)) g)

  pub quoted_complete : (u w : List ℕ) → Quoted q u w → (r : List ℕ) → quoted q false (u ++ r) ≡ got w r
  quoted_complete u w closed r = quoted_closed r
  quoted_complete u w (raw {b = b} {u = y} {w = z} n1 n2 n3 x) r = quoted_raw b (y ++ r) (got z r) n1 n2 n3 (quoted_complete y z x r)
  quoted_complete u w (escaped {b = b} {u = y} {w = z} h x) r = quoted_escaped b (y ++ r) (got z r) h (quoted_complete y z x r)

  -- what no string continues with
  abbrev Bad : Bool → List ℕ → Type 0
  Bad slash [] = Unit {0}
  Bad true (b ∷ s) = is_escape b ≡ false
  Bad false (b ∷ s) = (eqb b q ≡ false) × (eqb b 92 ≡ false) × (is_break b ≡ true)

  quoted_bad : (slash : Bool) (s : List ℕ) → Bad slash s → quoted q slash s ≡ fault s
  unfolding quoted
  quoted_bad true [] h = refl
  quoted_bad false [] h = refl
  quoted_bad true (b ∷ r) h = rw (quoted, h)
  quoted_bad false (b ∷ r) h = rw (quoted, h.0, h.1, h.2)

  bad_alike : (slash : Bool) (s r : List ℕ) → Alike s r → Bad slash s → Bad slash r
  bad_alike slash [] r e h = subst (Bad slash) (sym e) h
  bad_alike true (b ∷ s) r (w, e) h = subst (Bad true) (sym e) h
  bad_alike false (b ∷ s) r (w, e) h = subst (Bad false) (sym e) h

  open_string : (slash : Bool) → Completable (Rest slash) []
  unfolding is_escape
  open_string false = (q ∷ [], [], (q_byte, tt), closed)
  open_string true = (92 ∷ (q ∷ []), unescape 92 ∷ [], (omega arith, (q_byte, tt)), escaped refl closed)

  abbrev Good : Bool → List ℕ → Type 0
  Good slash s = Faithful (Rest slash) (Rest slash) (By (quoted q slash)) s

  faithful_bad : (slash : Bool) (s : List ℕ) → Bad slash s → Good slash s
  faithful_bad slash s h = (fault s, ([], refl, open_string slash, λ r al. quoted_bad slash r (bad_alike slash s r al h)))

  faithful_escape : (b : ℕ) (s : List ℕ) → (is_escape b ≡ true) ⊎ (is_escape b ≡ false) → Good false s → Good true (b ∷ s)
  faithful_escape b s (inl h) ih =
      faithful_map (Rest false) (Rest false) (Rest true) (Rest true) (By (quoted q false)) (By (quoted q true)) (b ∷ []) (◌∷◌ (unescape b)) s
      (λ u w x. escaped h x) (λ u w x. escaped h x) (λ y g al hy. quoted_escape b y g h hy) ih
  faithful_escape b s (inr h) ih = faithful_bad true (b ∷ s) h

  faithful_raw : (b : ℕ) (s : List ℕ) → eqb b q ≡ false → eqb b 92 ≡ false → (is_break b ≡ true) ⊎ (is_break b ≡ false) → Good false s → Good false (b ∷ s)
  faithful_raw b s n1 n2 (inl h) ih = faithful_bad false (b ∷ s) (n1, n2, h)
  faithful_raw b s n1 n2 (inr h) ih =
      faithful_map (Rest false) (Rest false) (Rest false) (Rest false) (By (quoted q false)) (By (quoted q false)) (b ∷ []) (◌∷◌ b) s
      (λ u w x. raw n1 n2 h x) (λ u w x. raw n1 n2 h x) (λ y g al hy. quoted_raw b y g n1 n2 h hy) ih

  faithful_slash : (b : ℕ) (s : List ℕ) → eqb b q ≡ false → (eqb b 92 ≡ true) ⊎ (eqb b 92 ≡ false) → Good false s → Good true s → Good false (b ∷ s)
  faithful_slash b s n1 (inl h) ih ie =
      moved (Rest false) (Rest false) (By (quoted q false)) (ap (λ x. x ∷ s) (eqb-true b 92 h))
      (faithful_map (Rest true) (Rest true) (Rest false) (Rest false) (By (quoted q true)) (By (quoted q false)) (92 ∷ []) (λ x. x) s
      (λ u w x. x) (λ u w x. x) (λ y g al hy. quoted_slash y g hy) ie)
  faithful_slash b s n1 (inr h) ih ie = faithful_raw b s n1 h (case_of (is_break b)) ih

  faithful_closed : (b : ℕ) (s : List ℕ) → (eqb b q ≡ true) ⊎ (eqb b q ≡ false) → Good false s → Good true s → Good false (b ∷ s)
  faithful_closed b s (inl h) ih ie = (got [] s, (q ∷ [], ap (λ x. x ∷ s) (eqb-true b q h), closed, λ r al. quoted_closed r))
  faithful_closed b s (inr h) ih ie = faithful_slash b s h (case_of (eqb b 92)) ih ie

  pub faithful_quoted : (s : List ℕ) (slash : Bool) → Faithful (Rest slash) (Rest slash) (By (quoted q slash)) s
  faithful_quoted [] slash = faithful_bad slash [] tt
  faithful_quoted (b ∷ s) true = faithful_escape b s (case_of (is_escape b)) (faithful_quoted s false)
  faithful_quoted (b ∷ s) false = faithful_closed b s (case_of (eqb b q)) (faithful_quoted s false) (faithful_quoted s true)
