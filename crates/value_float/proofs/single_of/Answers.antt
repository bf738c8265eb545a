-- `value_float::single_of` meets its contract: above the infinity's pattern every one is a NaN's; no other pattern is.
use Prim.Native.Nat.{ℕ}
use native.Mathlib.Omega.{arith}
use mathlib.Core.Path.{◌≡◌, refl, sym, ap, ◌∙◌}
use lib.Ieee.{Float, nan, binary32, of_bits}
use Rattle.value_float.specs.declared.Single.{Single}
use Rattle.value_float.specs.Floats.{single_of}
use Rattle.value_float.proofs.Patterns.{single_nan, single_number}
use Rattle.value_float.proofs.single_of.Goals as goal

-- NAN by its bits
nan_is : of_bits binary32 0x7FC00000 ≡ nan
unfolding of_bits
nan_is = refl

with_bits : (x : Float) (b : ℕ) → x ≡ of_bits binary32 b → ◌≡◌ {A = Single} (record { number = x; bits = b }) (single_of b)
with_bits x b e = ap (λ (y : Float). record { number = y; bits = b }) e

pub returns-then-bits-gt-INFINITY : goal.returns-then-bits-gt-INFINITY
returns-then-bits-gt-INFINITY c = let b = c.args.bits in with_bits _ b (nan_is ∙ sym (single_nan b (omega (arith, c.if-bits-gt-INFINITY.true))))

pub float_from_bits-result : goal.float_from_bits-result
float_from_bits-result c = single_number c.args.bits (omega (arith, c.if-bits-gt-INFINITY.false))
