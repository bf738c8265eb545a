-- From the last entry on; of each but the first the parent alone changes.
use Prim.Native.Nat.{◌*◌, ◌<◌}
use Rattle.dtype.specs.Record.{entry_width}
use Rattle.table_fill.proofs.Lifts.{Relinking}
use Rattle.table_fill.proofs.relink.Given as goal

abbrev pub invariant-loop-k : goal.invariant-loop-k
invariant-loop-k l = Relinking l.initial.table l.entry l.count l.by (entry_width * l.k) l.table × (0 < l.count → 0 < l.k)
