-- The loop over the members keeps that the list ends as its members from the gap on do, and that its verdict is the one on the members met, extended by those from the gap on
-- (`Walking`).
use lib.ListN.{length}
use Rattle.literal.proofs.Steps.{gap_left}
use Rattle.shape_text.proofs.Walking.{Walking}
use Rattle.shape_text.proofs.members.Given as goal

abbrev pub invariant-loop-g : goal.invariant-loop-g
invariant-loop-g l = Walking l.room l.text l.close l.from l.initial.verdict l.g l.verdict

abbrev pub decreases-loop-g : goal.decreases-loop-g
decreases-loop-g l = gap_left (length l.text) l.g
