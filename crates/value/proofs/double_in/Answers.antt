-- `value::double_in` meets its contract: eight bytes are the bits.
use mathlib.Core.Path.{ap, ◌∙◌}
use Rattle.value_float.specs.Floats.{double_of}
use Rattle.value.proofs.double_in.Goals as goal

pub returns : goal.returns
returns c = c.double_of.ensures ∙ ap double_of c.number_in.ensures
