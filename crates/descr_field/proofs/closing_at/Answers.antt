-- By the kind of the byte.
use mathlib.Core.Path.{ap, ◌∙◌}
use Rattle.shape_text.specs.Members.{closing_of}
use Rattle.descr_field.proofs.closing_at.Goals as goal

pub returns : goal.returns
returns c = c.closing.ensures ∙ ap closing_of c.kind_at.ensures
