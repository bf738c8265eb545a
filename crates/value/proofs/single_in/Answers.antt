-- `value::single_in` meets its contract: the number in four bytes has 32 bits.
use mathlib.Core.Path.{ap, ◌∙◌}
use native.Mathlib.Omega.{arith}
use Rattle.value_float.specs.Floats.{single_of}
use Rattle.value.proofs.Runs.{below}
use Rattle.value.proofs.single_in.Goals as goal

pub overflow_cast-number_in : goal.overflow_cast-number_in
overflow_cast-number_in c = omega (arith, c.number_in.ensures, below c.args.order c.args.run.now c.shared_slice_known-1.given 4 c.requires)

pub returns : goal.returns
returns c = c.single_of.ensures ∙ ap single_of c.number_in.ensures
