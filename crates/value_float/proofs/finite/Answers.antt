-- `value_float::finite` meets its contract: the product of the digits and a power of two is the number, and nothing is rounded.
use Rattle.value_float.proofs.Fields.{shift_few}
use Rattle.value_float.proofs.Numbers.{is_number, is_exactly}
use Rattle.value_float.proofs.finite.Goals as goal
use Rattle.value_float.proofs.finite.Goals.{Start}

pub unit-requires : goal.unit-requires
unit-requires c = rw c.shift_of.ensures (shift_few c.args.exponent c.requires.0)

pub float_to_bits-result : goal.float_to_bits-result
float_to_bits-result c =
    let start = (goal.at.float_to_bits-result c).Start in
    let a = start.args in
    is_number a.negative a.exponent a.fraction _ _ _ start.requires.0 start.requires.1 c.digits_of.ensures c.shift_of.ensures c.unit.ensures

pub returns : goal.returns
returns c =
    let start = (goal.at.returns c).Start in
    let a = start.args in
    is_exactly a.negative a.exponent a.fraction _ _ _ start.requires.0 start.requires.1 c.digits_of.ensures c.shift_of.ensures c.unit.ensures
