-- A signed number of 64 bits by its sign, as code takes it apart: below 0 it is -1 less what `-1 - z` is, which fits; from 0 up it is a natural number. npy_codes and element_text cite this.
use Prim.Native.Nat.{ℕ, suc, ◌<◌}
use native.Mathlib.Omega.{arith}
use mathlib.Core.Path.{◌≡◌, refl, sym, ap, subst, ◌∙◌}
use mathlib.Core.Bool.{true, false}
use lib.Dec.{T}
use lib.IntN.{ℤ, pos, negsuc, ◌-ℤ◌, nat_abs, +ℤ_comm, -ℤ_one}
use lib.Signed.{lt_z, non_neg}
use borrow.Author.Tests.{le-ltb}
use mir.Syntax.{w64}
use mir.Val.{Fits, SFits, to_z, of_z}
use mir.ValLaws.{to_z-of_z}
use Rattle.counts.proofs.Alike.{true_false, false_true}

-- a number, read back from its bits
abbrev pub reread : ℤ → ℤ
reread z = to_z w64 (of_z w64 z)

one_below : (k : ℕ) → negsuc 0 -ℤ negsuc k ≡ pos k
one_below k = +ℤ_comm (negsuc 0) (pos (suc k)) ∙ -ℤ_one (pos (suc k))

pub record Negative (z : ℤ) : Type 0 where
  pub less : ℕ
  pub is : z ≡ negsuc less
  pub small : less < 9223372036854775808

pub record Positive (z : ℤ) : Type 0 where
  pub number : ℕ
  pub is : z ≡ pos number
  pub small : number < 9223372036854775808

below_zero : (z : ℤ) → SFits w64 z → lt_z (reread z) (pos 0) ≡ true → Negative z
below_zero (pos n) f e = false_true (sym (le-ltb n 0 (omega arith)) ∙ ap (λ (y : ℤ). lt_z y (pos 0)) (sym (to_z-of_z w64 (pos n) f)) ∙ e)
below_zero (negsuc k) f e = record { less = k; is = refl; small = f.sfits }

from_zero : (z : ℤ) → SFits w64 z → lt_z (reread z) (pos 0) ≡ false → Positive z
from_zero (pos n) f e = record { number = n; is = refl; small = f.sfits }
from_zero (negsuc k) f e = true_false (ap (λ (y : ℤ). lt_z y (pos 0)) (sym (to_z-of_z w64 (negsuc k) f)) ∙ e)

-- ---- below 0
module _ (z : ℤ) (f : SFits w64 z) (h : lt_z (reread z) (pos 0) ≡ true) where
  pub negative : Negative z
  negative = below_zero z f h

  magnitude_is : negsuc 0 -ℤ reread z ≡ pos negative.less
  magnitude_is = ap (λ (y : ℤ). negsuc 0 -ℤ y) (to_z-of_z w64 z f ∙ negative.is) ∙ one_below negative.less

  pub magnitude_fits : SFits w64 (negsuc 0 -ℤ reread z)
  magnitude_fits = subst (SFits w64) (sym magnitude_is) (record { sfits = negative.small })

  pub magnitude_again : reread (negsuc 0 -ℤ reread z) ≡ pos negative.less
  magnitude_again = to_z-of_z w64 (negsuc 0 -ℤ reread z) magnitude_fits ∙ magnitude_is

  pub magnitude_cast : T (non_neg (reread (negsuc 0 -ℤ reread z))) × Fits w64 (nat_abs (reread (negsuc 0 -ℤ reread z)))
  magnitude_cast = subst (λ (y : ℤ). T (non_neg y) × Fits w64 (nat_abs y)) (sym magnitude_again) (tt, record { fits = omega (arith, negative.small) })

-- ---- from 0 up
module _ (z : ℤ) (f : SFits w64 z) (h : lt_z (reread z) (pos 0) ≡ false) where
  pub positive : Positive z
  positive = from_zero z f h

  pub positive_again : reread z ≡ pos positive.number
  positive_again = to_z-of_z w64 z f ∙ positive.is

  pub positive_cast : T (non_neg (reread z)) × Fits w64 (nat_abs (reread z))
  positive_cast = subst (λ (y : ℤ). T (non_neg y) × Fits w64 (nat_abs y)) (sym positive_again) (tt, record { fits = omega (arith, positive.small) })
