-- The loop over the pairs keeps that what was seen of the three keys, with what the pairs from the gap on have, is what all pairs have, and whether the keys so far are strings
-- (`Seen`); and that the pairs end as those from the gap on do.
use lib.ListN.{length}
use Rattle.literal.specs.Brackets.{pair_by}
use Rattle.literal.specs.Literal as read
use Rattle.literal.proofs.Steps.{Turn, gap_left}
use Rattle.shape_text.proofs.Goes.{Goes}
use Rattle.judge.proofs.Seek.{Seen}
use Rattle.judge.proofs.keys.keys_from.Given as goal

abbrev pub invariant-loop-g : goal.invariant-loop-g
invariant-loop-g l =
    Turn (pair_by (read.value l.room l.text) l.text) l.text 125 l.from l.g × Goes (pair_by (read.value l.room l.text) l.text) l.text 125 l.from (Seen l.room l.text l.strings (record { descr = l.descr; order = l.order; shape = l.shape })) l.g

abbrev pub decreases-loop-g : goal.decreases-loop-g
decreases-loop-g l = gap_left (length l.text) l.g
