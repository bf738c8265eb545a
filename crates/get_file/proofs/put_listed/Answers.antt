-- Each turn is a byte more.
use Rattle.get_file.proofs.Lists.{listing_more, listing_end}
use Rattle.get_file.proofs.put_listed.Goals as goal

pub loop-b-preserved : goal.loop-b-preserved
loop-b-preserved c = listing_more _ _ _ _ _ _ c.loop-b.invariant _ _ _ c.loop-b-test.true c.put_at_comma-count.ensures c.number_after-n.ensures

pub returns : goal.returns
returns c = listing_end _ _ _ _ _ _ c.loop-b.invariant _ _ c.put_number.ensures c.loop-b-test.false
