-- By the byte that `peek` returns.
use mathlib.Core.Path.{ap, ◌∙◌}
use Rattle.literal_bytes.specs.Text.{kind_of}
use Rattle.literal_bytes.proofs.kind_at.Goals as goal

pub returns : goal.returns
returns c = c.kind_of.ensures ∙ ap kind_of c.peek.ensures
