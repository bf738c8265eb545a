-- `header_feed::end` meets its contract, by what the feeder says.
use Rattle.header_feed.proofs.Calls.{ends_early}
use Rattle.header_feed.proofs.end.Goals as goal

pub returns-in-More : goal.returns-in-More
returns-in-More c = ends_early c.args.f _ c.in-More.is c.cut_short.ensures
