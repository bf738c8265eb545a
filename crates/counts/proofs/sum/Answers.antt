-- `counts::sum` meets its contract, by that of the library's operation.
use Rattle.counts.proofs.Fits.{number_checked}
use Rattle.counts.proofs.sum.Goals as goal

pub returns : goal.returns
returns c = number_checked _ _ c.checked_add.ensures
