-- The eight bytes before the length field, and the field's own.
use native.Mathlib.Omega.{arith}
use Rattle.header_prefix.specs.Answer.{version_is}
use Rattle.header_prefix.proofs.Bytes.{width_few}
use Rattle.header_prefix.proofs.text_start.Goals as goal

pub overflow_add-result : goal.overflow_add-result
overflow_add-result c = omega (arith, c.length_width.ensures, width_few (version_is c.args.version))
