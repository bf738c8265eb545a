-- `value::half_in` meets its contract: the number in two bytes has 16 bits.
use mathlib.Core.Path.{ap, ◌∙◌}
use native.Mathlib.Omega.{arith}
use Rattle.value_float.specs.Half.{half_of}
use Rattle.value.proofs.Runs.{below}
use Rattle.value.proofs.half_in.Goals as goal

pub overflow_cast-number_in : goal.overflow_cast-number_in
overflow_cast-number_in c = omega (arith, c.number_in.ensures, below c.args.order c.args.run.now c.shared_slice_known-1.given 2 c.requires)

pub returns : goal.returns
returns c = c.from_half.ensures ∙ ap half_of c.number_in.ensures
