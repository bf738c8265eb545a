-- `read_back::table_of` meets its contract: the front of the room, or the whole room.
use Prim.Native.Nat.{◌*◌}
use native.Mathlib.Omega.{arith}
use mathlib.Core.Path.{sym}
use lib.Seq.{take_all, length-take-le}
use Rattle.dtype.specs.Record.{entry_width}
use Rattle.read_back.proofs.table_of.Goals as goal

pub slice_bounds-result-end : goal.slice_bounds-result-end
slice_bounds-result-end c = sym (length-take-le (entry_width * c.args.entries) c.args.table.now (omega (arith, c.if-entries-table.true)))

pub returns : goal.returns
returns c = sym (take_all (entry_width * c.args.entries) c.args.table.now (omega (arith, c.if-entries-table.false)))
