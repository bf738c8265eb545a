-- `saturating::held_sum` meets its contract: the sum, or the largest number where it is over.
use mathlib.Core.Path.{ap, ◌∙◌}
use Rattle.counts.specs.Counts.{held_bytes}
use Rattle.counts.proofs.Counted.{held_bytes_lem}
use Rattle.saturating.proofs.held_sum.Goals as goal

pub returns : goal.returns
returns c = c.held.ensures ∙ ap held_bytes c.plus.ensures ∙ held_bytes_lem _
