-- `saturating::held_product` meets its contract: the product, or the largest number where it is over.
use mathlib.Core.Path.{ap, ◌∙◌}
use Rattle.counts.specs.Counts.{held_bytes}
use Rattle.counts.proofs.Counted.{held_bytes_lem}
use Rattle.saturating.proofs.held_product.Goals as goal

pub returns : goal.returns
returns c = c.held.ensures ∙ ap held_bytes c.of_size.ensures ∙ held_bytes_lem _
