-- `header_feed::grow` meets its contract: nothing is wanted, or n bytes are copied.
use Rattle.header_feed.proofs.Texts.{grown_none, grown_some}
use Rattle.header_feed.proofs.grow.Goals as goal

pub returns-then-upto-had : goal.returns-then-upto-had
returns-then-upto-had c = grown_none _ _ _ _ _ c.if-upto-had.true

pub returns : goal.returns
returns c = grown_some c.args.head _ _ c.args.part.now c.args.used _ _ c.min-n.ensures c.copy.ensures
