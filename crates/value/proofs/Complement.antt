-- Two's complement in 64 bits.
use mathlib.Core.Path.{◌≡◌, refl, sym, ap, ◌∙◌, subst}
use Prim.Native.Nat.{ℕ, zero, suc, ◌+◌, ◌-◌, ◌/◌, ◌<◌, ◌≤◌}
use native.Mathlib.Omega.{arith}
use native.Mathlib.Decide.{dec_lt}
use mathlib.Core.Bool.{Bool, cond}
use lib.IntN.{ℤ, pos, negsuc, ◌-ℤ◌}
use borrow.Author.Tests.{le-leb, lt-leb}
use mir.Syntax.{w64}
use mir.Val.{SFits, to_z, of_z}
use mir.ValLaws.{to_z_pos, to_z-of_z}
use Rattle.value.specs.Values.{signed_by}

minus_one : (k : ℕ) → negsuc 0 -ℤ pos k ≡ negsuc k
minus_one zero = refl
minus_one (suc k) = let e : suc (0 + k) ≡ suc k = omega arith in ap negsuc e

module _ (n most : ℕ) (fits : most < 18446744073709551616) where
  pub low : n ≤ most / 2 → to_z w64 n ≡ signed_by most n
  unfolding signed_by
  low h = to_z_pos w64 n (omega arith) ∙ sym (ap (λ (t : Bool). cond t (pos n) (negsuc (most - n))) (le-leb n (most / 2) h))

  module _ (le : n ≤ most) (h : most / 2 < n) where
    down : negsuc 0 -ℤ to_z w64 (most - n) ≡ negsuc (most - n)
    down = ap (λ (z : ℤ). negsuc 0 -ℤ z) (to_z_pos w64 (most - n) (omega arith)) ∙ minus_one (most - n)

    pub down_fits : SFits w64 (negsuc 0 -ℤ to_z w64 (most - n))
    down_fits = subst (SFits w64) (sym down) (record { sfits = omega arith })

    pub high : to_z w64 (of_z w64 (negsuc 0 -ℤ to_z w64 (most - n))) ≡ signed_by most n
    unfolding signed_by
    high = to_z-of_z w64 (negsuc 0 -ℤ to_z w64 (most - n)) down_fits ∙ down ∙ sym (ap (λ (t : Bool). cond t (pos n) (negsuc (most - n))) (lt-leb n (most / 2) h))

signed_fits : (n most : ℕ) → most < 18446744073709551616 → n ≤ most → SFits w64 (signed_by most n)
unfolding signed_by
signed_fits n most fits le = elim (dec_lt (most / 2) n) [
  | yes h ↦ subst (λ (t : Bool). SFits w64 (cond t (pos n) (negsuc (most - n)))) (sym (lt-leb n (most / 2) h)) (record { sfits = omega arith })
  | no h ↦ subst (λ (t : Bool). SFits w64 (cond t (pos n) (negsuc (most - n)))) (sym (le-leb n (most / 2) (omega arith))) (record { sfits = omega arith })
]

-- a result that is handed on is read back from its bits
pub back : (z : ℤ) (n most : ℕ) → most < 18446744073709551616 → n ≤ most → z ≡ signed_by most n → to_z w64 (of_z w64 z) ≡ signed_by most n
back z n most fits le e = ap (λ (y : ℤ). to_z w64 (of_z w64 y)) e ∙ to_z-of_z w64 (signed_by most n) (signed_fits n most fits le)
