-- `list_record::put_entries` meets its contract: each turn puts one line more.
use Prim.Native.Nat.{◌/◌}
use lib.ListN.{length}
use Rattle.dtype.specs.Record.{entry_width}
use Rattle.list_text.proofs.Lines.{Going}
use Rattle.list_record.proofs.put_entries.Given as goal

abbrev pub invariant-loop-e : goal.invariant-loop-e
invariant-loop-e l = Going (length l.table / entry_width) l.table l.names l.initial.out l.at l.out l.p l.start l.e
