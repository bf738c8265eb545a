-- Laws on texts: the next byte, blanks at the front, and texts that continue alike. The end of a text counts as the next byte 256, which is no byte; a law that must
-- distinguish the two requires texts to be `Alike`.
use Prim.Native.Nat.{ℕ, ◌<◌, ◌≤◌}
use native.Mathlib.Omega.{arith}
use mathlib.Core.Path.{◌≡◌, refl, sym, ap, subst}
use mathlib.Core.Logic.{◌⊎◌, inl, inr}
use mathlib.Core.List.{List, [], ◌∷◌, ◌++◌}
use mathlib.Core.Bool.{Bool, true, false, ◌||◌}
use lib.Dec.{eqb}
use borrow.Author.Tests.{eqb-true}
use Rattle.literal_grammar.specs.Bytes.{is_blank, is_quote}
use Rattle.literal_grammar.specs.Grammar.{All}

pub case_of : (b : Bool) → (b ≡ true) ⊎ (b ≡ false)
case_of true = inl refl
case_of false = inr refl

or-true : (a b : Bool) → (a || b) ≡ true → (a ≡ true) ⊎ (b ≡ true)
or-true true b h = inl refl
or-true false b h = inr h

-- ---- the next byte, or 256 at the end
abbrev pub head_of : List ℕ → ℕ
head_of [] = 256
head_of (b ∷ s) = b

abbrev pub tail_of : List ℕ → List ℕ
tail_of [] = []
tail_of (b ∷ s) = s

pub head_is : (t : List ℕ) (c : ℕ) → c < 256 → eqb (head_of t) c ≡ true → t ≡ c ∷ tail_of t
head_is [] c lt e = absurd (omega (arith, eqb-true 256 c e))
head_is (b ∷ t) c lt e = ap (λ x. x ∷ t) (eqb-true b c e)

-- ---- r continues with the same byte as q, or ends as q does
abbrev pub Alike : List ℕ → List ℕ → Type 0
Alike [] r = r ≡ []
Alike (b ∷ q) r = (w : List ℕ) × (r ≡ b ∷ w)

pub alike_self : (q : List ℕ) → Alike q q
alike_self [] = refl
alike_self (b ∷ q) = (q, refl)

pub alike_head : (q r : List ℕ) → Alike q r → head_of r ≡ head_of q
alike_head [] r e = ap head_of e
alike_head (b ∷ q) r (w, e) = ap head_of e

pub alike_cons : (c : ℕ) (z w : List ℕ) → z ≡ c ∷ tail_of z → Alike z (c ∷ w)
alike_cons c z w e = subst (λ y. Alike y (c ∷ w)) (sym e) (w, refl)

alike_after : (u q r : List ℕ) → Alike q r → Alike (u ++ q) (u ++ r)
alike_after [] q r al = al
alike_after (b ∷ u) q r al = (u ++ r, refl)

pub alike_on : (t u q r : List ℕ) → t ≡ u ++ q → Alike q r → Alike t (u ++ r)
alike_on t u q r e al = subst (λ y. Alike y (u ++ r)) (sym e) (alike_after u q r al)

-- ---- blanks
abbrev pub Blanks : List ℕ → Type 0
Blanks u = All is_blank u

pub all_append : (test : ℕ → Bool) (u w : List ℕ) → All test u → All test w → All test (u ++ w)
all_append test [] w hu hw = hw
all_append test (b ∷ u) w hu hw = (hu.0, all_append test u w hu.1 hw)

pub blank_by : (P : ℕ → Type 0) → P 32 → P 9 → P 10 → P 13 → (b : ℕ) → is_blank b ≡ true → P b
unfolding is_blank
blank_by P space tab lf cr b h = by_cr (or-true (eqb b 32 || eqb b 9 || eqb b 10) (eqb b 13) h)
  where
    is : (n : ℕ) → P n → eqb b n ≡ true → P b
    is n x e = subst P (sym (eqb-true b n e)) x

    by_tab : (eqb b 32 ≡ true) ⊎ (eqb b 9 ≡ true) → P b
    by_tab (inl e) = is 32 space e
    by_tab (inr e) = is 9 tab e

    by_lf : ((eqb b 32 || eqb b 9) ≡ true) ⊎ (eqb b 10 ≡ true) → P b
    by_lf (inl e) = by_tab (or-true (eqb b 32) (eqb b 9) e)
    by_lf (inr e) = is 10 lf e

    by_cr : ((eqb b 32 || eqb b 9 || eqb b 10) ≡ true) ⊎ (eqb b 13 ≡ true) → P b
    by_cr (inl e) = by_lf (or-true (eqb b 32 || eqb b 9) (eqb b 10) e)
    by_cr (inr e) = is 13 cr e

-- no byte above the space is a blank
pub above_blanks : (b : ℕ) → 33 ≤ b → is_blank b ≡ false
above_blanks b h = go (case_of (is_blank b))
  where
    go : (is_blank b ≡ true) ⊎ (is_blank b ≡ false) → is_blank b ≡ false
    go (inl e) = absurd (blank_by (λ c. 33 ≤ c → ⊥) (λ k. omega arith) (λ k. omega arith) (λ k. omega arith) (λ k. omega arith) b e h)
    go (inr e) = e

pub quote_by : (P : ℕ → Type 0) → P 39 → P 34 → (b : ℕ) → is_quote b ≡ true → P b
unfolding is_quote
quote_by P single double b h = by_quote (or-true (eqb b 39) (eqb b 34) h)
  where
    by_quote : (eqb b 39 ≡ true) ⊎ (eqb b 34 ≡ true) → P b
    by_quote (inl e) = subst P (sym (eqb-true b 39 e)) single
    by_quote (inr e) = subst P (sym (eqb-true b 34 e)) double

-- ---- a text begins with bytes that pass a test, as many as there are
abbrev pub Run : (ℕ → Bool) → List ℕ → Type 0
Run test s = (a : List ℕ) × (t : List ℕ) × All test a × (s ≡ a ++ t) × (test (head_of t) ≡ false)

run_of : (test : ℕ → Bool) (b : ℕ) (s : List ℕ) → (test b ≡ true) ⊎ (test b ≡ false) → Run test s → Run test (b ∷ s)
run_of test b s (inl e) (a, t, h, g, n) = (b ∷ a, t, (e, h), ap (λ x. b ∷ x) g, n)
run_of test b s (inr e) r = ([], b ∷ s, tt, refl, e)

pub run : (test : ℕ → Bool) → test 256 ≡ false → (s : List ℕ) → Run test s
run test no_end [] = ([], [], tt, refl, no_end)
run test no_end (b ∷ s) = run_of test b s (case_of (test b)) (run test no_end s)

pub gap : (s : List ℕ) → Run is_blank s
gap = run is_blank (unfold is_blank in refl)
