-- `value_float::unit` meets its contract: the exponent's field is place + 103 and the fraction is 0.
use native.Mathlib.Omega.{arith}
use Rattle.value_float.proofs.Fields.{sign_few}
use Rattle.value_float.proofs.Patterns.{power, power_number}
use Rattle.value_float.proofs.unit.Goals as goal

pub overflow_add-result-2 : goal.overflow_add-result-2
overflow_add-result-2 c = omega (arith, c.sign_bits.ensures, sign_few c.args.negative)

pub float_from_bits-result : goal.float_from_bits-result
float_from_bits-result c = rw c.sign_bits.ensures (power_number c.args.negative c.args.place c.requires)

pub returns : goal.returns
returns c = rw c.sign_bits.ensures (power c.args.negative c.args.place c.requires)
