-- `decimal::eight` meets its contract: the pairs of the number of the eight bytes write the number of the digits (`by_pairs`).
use native.Mathlib.Omega.{arith}
use mathlib.Core.Path.{refl}
use Rattle.decimal.proofs.Pairs.{zeros_below, digits_below, by_pairs}
use Rattle.decimal.proofs.eight.Goals as goal

pub overflow_sub-digits : goal.overflow_sub-digits
overflow_sub-digits c = zeros_below _ c.told-block c.requires _ c.from_le_bytes-digits.ensures

pub overflow_mul-pairs : goal.overflow_mul-pairs
overflow_mul-pairs c = omega (arith, digits_below _ c.told-block c.requires _ c.from_le_bytes-digits.ensures)

pub overflow_add-pairs : goal.overflow_add-pairs
overflow_add-pairs c = omega (arith, digits_below _ c.told-block c.requires _ c.from_le_bytes-digits.ensures)

pub returns : goal.returns
returns c = by_pairs _ c.told-block c.requires _ c.from_le_bytes-digits.ensures _ refl
