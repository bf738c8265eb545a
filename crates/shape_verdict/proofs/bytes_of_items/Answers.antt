-- By the two cases of the count.
use mathlib.Core.Path.{refl}
use Rattle.shape_verdict.specs.Outline.{bytes_of_items}
use Rattle.shape_verdict.proofs.bytes_of_items.Goals as goal

pub returns : goal.returns
unfolding bytes_of_items
returns c = rw c.in_ok-n.was c.of_size.ensures

pub returns-in_err-n : goal.returns-in_err-n
unfolding bytes_of_items
returns-in_err-n c = rw (c.from_residual.ensures, c.in_err-n.was) refl
