-- No dimension, no level. Otherwise the type's entries are moved, and the levels are written before it.
use Rattle.counts.proofs.Counted.{bytes_eq}
use Rattle.table_fill.proofs.LevelLifts.{over_none, over_some}
use Rattle.table_fill.proofs.put_sub_shape.Goals as goal

pub returns-then-rank-eq0 : goal.returns-then-rank-eq0
returns-then-rank-eq0 c = let a = c.args in
    let none = over_none a.shape.now a.entry a.up a.name a.stop a.size.0 a.table.now c.if-rank-eq0.true in
    record { value = bytes_eq none.0; table_after = none.1 }

pub returns : goal.returns
returns c =
    let a = c.args in record { value = c.put_levels.ensures.value; table_after = (over_some a.shape.now a.entry a.up a.name a.stop a.size.0 a.table.now c.if-rank-eq0.false c.entries_between-count.result c.saturating_add-last.result _ _ c.entries_between-count.ensures c.saturating_add-last.ensures c.lift.ensures c.put_levels.ensures.table_after) }
