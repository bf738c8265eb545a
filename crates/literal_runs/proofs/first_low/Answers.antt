-- The invariant: the first low byte among those passed is at `first`; or none was, and the run continues.
use Rattle.literal_runs.specs.Low.{is_low}
use Rattle.literal_runs.proofs.Firsts.{found_none, found_more, found_end}
use Rattle.literal_runs.proofs.first_low.Goals as goal

pub loop-i-init : goal.loop-i-init
loop-i-init c = found_none is_low _

pub loop-i-preserved : goal.loop-i-preserved
loop-i-preserved c =
    let l = c.loop-i in
    found_more is_low _ l.i l.first _ _ c.loop-i-test.true c.requires c.low_place.ensures c.lesser-first.ensures l.invariant

pub returns : goal.returns
returns c = found_end is_low _ c.loop-i.i c.loop-i.first c.loop-i-test.false c.requires c.loop-i.invariant
