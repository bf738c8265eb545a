use Prim.Native.Nat.{◌+◌, ◌*◌}
use lib.ListN.{length}
use Rattle.literal.proofs.Steps.{gap_left}
use Rattle.header.proofs.Filling.{Filling}
use Rattle.header.proofs.fill.+fields_fill_fill_record.Given as goal

abbrev pub decreases-fields : goal.decreases-fields
decreases-fields l = 2 * l.room

abbrev pub decreases-fill : goal.decreases-fill
decreases-fill l = 2 * l.room + 1

abbrev pub decreases-fill_record : goal.decreases-fill_record
decreases-fill_record l = 2 * l.room

abbrev pub invariant-fields-loop-g : goal.invariant-fields-loop-g
invariant-fields-loop-g l = Filling l.room l.text l.from l.entry l.up l.byte l.initial.table l.initial.names l.g l.at l.b l.count l.size l.table l.names

abbrev pub decreases-fields-loop-g : goal.decreases-fields-loop-g
decreases-fields-loop-g l = gap_left (length l.text) l.g
