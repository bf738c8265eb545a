-- `utf8_scalar::is_scalar` meets its contract: the codes of a `char` are the scalar values.
use mathlib.Core.Path.{◌∙◌}
use Rattle.utf8_scalar.proofs.Scalars.{char_or_none}
use Rattle.utf8_scalar.proofs.is_scalar.Goals as goal

pub returns : goal.returns
returns c = c.is_some.ensures ∙ char_or_none _ _ c.from_u32.ensures.cases
