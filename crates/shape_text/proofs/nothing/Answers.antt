-- The outline of no dimensions.
use Rattle.shape_text.proofs.Held.{nothing_is}
use Rattle.shape_text.proofs.nothing.Goals as goal

pub returns : goal.returns
returns c = nothing_is
