-- A whole file is one that is held and is not longer.
use Rattle.header.proofs.read.Goals as goal

pub returns : goal.returns
returns c = c.read_held.ensures
