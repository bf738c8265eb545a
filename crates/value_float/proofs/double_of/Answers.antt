-- `value_float::double_of` meets its contract: above the infinity's pattern every one is a NaN's; no other pattern is.
use Prim.Native.Nat.{ℕ}
use native.Mathlib.Omega.{arith}
use mathlib.Core.Path.{◌≡◌, refl, sym, ap, ◌∙◌}
use lib.Ieee.{Float, nan, binary64, of_bits}
use Rattle.value_float.specs.declared.Double.{Double}
use Rattle.value_float.specs.Floats.{double_of}
use Rattle.value_float.proofs.Patterns.{double_nan, double_number}
use Rattle.value_float.proofs.double_of.Goals as goal

-- NAN by its bits
nan_is : of_bits binary64 0x7FF8000000000000 ≡ nan
unfolding of_bits
nan_is = refl

with_bits : (x : Float) (b : ℕ) → x ≡ of_bits binary64 b → ◌≡◌ {A = Double} (record { number = x; bits = b }) (double_of b)
with_bits x b e = ap (λ (y : Float). record { number = y; bits = b }) e

pub returns-then-bits-gt-WIDE_INFINITY : goal.returns-then-bits-gt-WIDE_INFINITY
returns-then-bits-gt-WIDE_INFINITY c = let b = c.args.bits in with_bits _ b (nan_is ∙ sym (double_nan b (omega (arith, c.if-bits-gt-WIDE_INFINITY.true))))

pub float_from_bits-result : goal.float_from_bits-result
float_from_bits-result c = double_number c.args.bits (omega (arith, c.if-bits-gt-WIDE_INFINITY.false))
