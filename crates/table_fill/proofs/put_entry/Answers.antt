-- Without the room nothing is written. With it each store is in bounds, and the nine are a run.
use native.Mathlib.Omega.{arith}
use mathlib.Core.Path.{sym, ◌∙◌}
use lib.ListN.{length-set}
use Rattle.table_fill.proofs.EntryStores.{nine}
use Rattle.table_fill.proofs.Levels.{put_room, put_none}
use Rattle.table_fill.proofs.put_entry.Goals as goal

pub returns-then-table-at : goal.returns-then-table-at
returns-then-table-at c = let a = c.args in sym (put_none a.table.now a.at a.e c.if-table-at.true)

pub bounds-table-i-2 : goal.bounds-table-i-2
bounds-table-i-2 c = simp length-set (omega arith)

pub bounds-table-i-3 : goal.bounds-table-i-3
bounds-table-i-3 c = simp length-set (omega arith)

pub bounds-table-i-4 : goal.bounds-table-i-4
bounds-table-i-4 c = simp length-set (omega arith)

pub bounds-table-i-5 : goal.bounds-table-i-5
bounds-table-i-5 c = simp length-set (omega arith)

pub bounds-table-i-6 : goal.bounds-table-i-6
bounds-table-i-6 c = simp length-set (omega arith)

pub bounds-table-i-7 : goal.bounds-table-i-7
bounds-table-i-7 c = simp length-set (omega arith)

pub bounds-table-i-8 : goal.bounds-table-i-8
bounds-table-i-8 c = simp length-set (omega arith)

pub bounds-table-i-9 : goal.bounds-table-i-9
bounds-table-i-9 c = simp length-set (omega arith)

pub shape_of-table : goal.shape_of-table
shape_of-table c = simp length-set

pub returns : goal.returns
returns c =
    let a = c.args in
    nine a.table.now _ a.e.parent a.e.kind a.e.order a.e.letter a.e.number a.e.units a.e.extent a.e.bytes a.e.name
    ∙ sym (put_room a.table.now a.at a.e (omega (arith, c.if-table-at.false)))
