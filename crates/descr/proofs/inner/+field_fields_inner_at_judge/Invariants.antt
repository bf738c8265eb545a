use Prim.Native.Nat.{◌+◌, ◌*◌}
use lib.ListN.{length}
use Rattle.literal.proofs.Steps.{gap_left}
use Rattle.descr.proofs.Along.{Turn}
use Rattle.descr.proofs.inner.+field_fields_inner_at_judge.Given as goal

abbrev pub decreases-field : goal.decreases-field
decreases-field l = 2 * l.room

abbrev pub decreases-fields : goal.decreases-fields
decreases-fields l = 2 * l.room + 1

abbrev pub decreases-inner_at : goal.decreases-inner_at
decreases-inner_at l = 2 * l.room + 1

abbrev pub decreases-judge : goal.decreases-judge
decreases-judge l = 2 * l.room

abbrev pub invariant-fields-loop-g : goal.invariant-fields-loop-g
invariant-fields-loop-g l = Turn l.room l.text l.from l.g l.verdict

abbrev pub decreases-fields-loop-g : goal.decreases-fields-loop-g
decreases-fields-loop-g l = gap_left (length l.text) l.g
