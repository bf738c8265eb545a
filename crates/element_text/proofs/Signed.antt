-- A signed number as text: what is put after `-` is its magnitude, which fits.
use Prim.Native.Nat.{ℕ, suc, ◌+◌}
use native.Mathlib.Omega.{arith}
use mathlib.Core.Path.{◌≡◌, sym, ap, subst}
use mathlib.Core.Bool.{true, false}
use mathlib.Core.List.{List, ◌∷◌}
use lib.IntN.{ℤ, pos, negsuc, ◌-ℤ◌, nat_abs}
use lib.Signed.{lt_z}
use mir.Syntax.{w64}
use mir.Val.{Fits, SFits}
use mir.ValLaws.{to_z-of_z}
use Rattle.decimal.specs.Decimal.{printed}
use Rattle.emit.specs.Emits.{Emits}
use Rattle.emit.proofs.Pieces.{emits_then}
use Rattle.element_text.specs.Text.{signed_text, value_text}
use Rattle.type_units.specs.declared.TimeUnits.{TimeUnits}
use Rattle.value.specs.declared.Value.{Value}
use Rattle.value.proofs.Signs.{reread, negative, positive, magnitude_again, positive_again}
pub use Rattle.value.proofs.Signs.{magnitude_fits, magnitude_cast, positive_cast}

module _ (z : ℤ) (f : SFits w64 z) (h : lt_z (reread z) (pos 0) ≡ true) where
  pub magnitude_more : Fits w64 (nat_abs (reread (negsuc 0 -ℤ reread z)) + 1)
  magnitude_more = subst (λ (y : ℤ). Fits w64 (nat_abs y + 1)) (sym (magnitude_again z f h)) (record { fits = omega (arith, (negative z f h).small) })

  pub emits_negative : (old : List ℕ) (at : ℕ) (mid : List ℕ) (p : ℕ) (out : List ℕ) (q : ℕ) → Emits (λ x. 45 ∷ x) old at mid p
      → Emits (printed (nat_abs (reread (negsuc 0 -ℤ reread z)) + 1)) mid p out q → Emits (signed_text z) old at out q
  emits_negative old at mid p out q a b =
      let e : nat_abs (reread (negsuc 0 -ℤ reread z)) + 1 ≡ suc (negative z f h).less = omega (arith, ap nat_abs (magnitude_again z f h)) in
      let d = subst (λ (n : ℕ). Emits (printed n) mid p out q) e b in
      subst (λ (y : ℤ). Emits (signed_text y) old at out q) (sym (negative z f h).is) (emits_then (λ x. 45 ∷ x) (printed (suc (negative z f h).less)) old at mid p out q a d)

module _ (z : ℤ) (f : SFits w64 z) (h : lt_z (reread z) (pos 0) ≡ false) where
  pub emits_positive : (old : List ℕ) (at : ℕ) (out : List ℕ) (p : ℕ) → Emits (printed (nat_abs (reread z))) old at out p → Emits (signed_text z) old at out p
  emits_positive old at out p a =
      subst (λ (y : ℤ). Emits (signed_text y) old at out p) (sym (positive z f h).is) (subst (λ (n : ℕ). Emits (printed n) old at out p) (ap nat_abs (positive_again z f h)) a)

-- a number that was handed on is read back from its bits
pub emits_reread : (z : ℤ) → SFits w64 z → (old : List ℕ) (at : ℕ) (out : List ℕ) (p : ℕ) → Emits (signed_text (reread z)) old at out p → Emits (signed_text z) old at out p
emits_reread z f old at out p h = subst (λ (y : ℤ). Emits (signed_text y) old at out p) (to_z-of_z w64 z f) h

pub time_reread : (z : ℤ) (u : TimeUnits) → SFits w64 z → (old out : List ℕ) (p : ℕ) → Emits (value_text (Value.Time (reread z) u)) old 0 out p → Emits (value_text (Value.Time z u)) old 0 out p
time_reread z u f old out p h = subst (λ (y : ℤ). Emits (value_text (Value.Time y u)) old 0 out p) (to_z-of_z w64 z f) h
