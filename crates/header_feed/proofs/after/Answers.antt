-- `header_feed::after` meets its contract: it returns what it is given.
use mathlib.Core.Path.{refl}
use Rattle.header_feed.proofs.after.Goals as goal

pub returns : goal.returns
returns c = refl
