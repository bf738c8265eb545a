-- Pieces of text that depend on a test, and the digits of a number in hexadecimal.
use Prim.Native.Nat.{ℕ, suc, ◌-◌, ◌/◌, ◌%◌}
use native.Mathlib.Omega.{arith}
use mathlib.Core.Path.{◌≡◌, sym, ap, subst}
use mathlib.Core.Bool.{Bool, true, false, cond}
use mathlib.Core.List.{List, ◌∷◌}
use Rattle.emit.specs.Emits.{Emits}
use Rattle.emit.proofs.Pieces.{emits_none, emits_then, emits_same}
use Rattle.element_text.specs.Hexadecimal.{hex_digit, hex_digits}

-- ---- one of two pieces
module _ (f g : List ℕ → List ℕ) (b : Bool) (old : List ℕ) (at : ℕ) (out : List ℕ) (p : ℕ) where
  pub emits_if : b ≡ true → Emits f old at out p → Emits (λ x. cond b (f x) (g x)) old at out p
  emits_if e h = emits_same f (λ x. cond b (f x) (g x)) old at out p (λ x. ap (λ (t : Bool). cond t (f x) (g x)) (sym e)) h

  pub emits_else : b ≡ false → Emits g old at out p → Emits (λ x. cond b (f x) (g x)) old at out p
  emits_else e h = emits_same g (λ x. cond b (f x) (g x)) old at out p (λ x. ap (λ (t : Bool). cond t (f x) (g x)) (sym e)) h

-- ---- hexadecimal digits
pub hex_none : (k n : ℕ) (old : List ℕ) (at : ℕ) → k ≡ 0 → Emits (hex_digits k n) old at old at
unfolding hex_digits
hex_none k n old at e = subst (λ (m : ℕ). Emits (hex_digits m n) old at old at) (sym e) (emits_none old at)

hex_last : (k n : ℕ) (old : List ℕ) (at : ℕ) (mid : List ℕ) (p : ℕ) (out : List ℕ) (q : ℕ) → Emits (hex_digits k (n / 16)) old at mid p
    → Emits (λ x. hex_digit (n % 16) ∷ x) mid p out q → Emits (hex_digits (suc k) n) old at out q
unfolding hex_digits
hex_last k n old at mid p out q h l = emits_then (hex_digits k (n / 16)) (λ x. hex_digit (n % 16) ∷ x) old at mid p out q h l

pub hex_more : (k n : ℕ) (old : List ℕ) (at : ℕ) (mid : List ℕ) (p : ℕ) (out : List ℕ) (q : ℕ) → (k ≡ 0 → ⊥) → Emits (hex_digits (k - 1) (n / 16)) old at mid p
    → Emits (λ x. hex_digit (n % 16) ∷ x) mid p out q → Emits (hex_digits k n) old at out q
hex_more k n old at mid p out q ne h l =
    let e : suc (k - 1) ≡ k = omega arith in
    subst (λ (m : ℕ). Emits (hex_digits m n) old at out q) e (hex_last (k - 1) n old at mid p out q h l)
