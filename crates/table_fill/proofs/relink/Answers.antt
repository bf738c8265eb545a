-- From the last entry on; of each but the first the parent alone changes.
use Prim.Native.Nat.{suc, ◌+◌, ◌-◌, ◌*◌, ◌<◌}
use native.Mathlib.Omega.{arith}
use mathlib.Core.Path.{◌≡◌, refl, ◌∙◌}
use lib.ListN.{length-set, set}
use Rattle.dtype.specs.Record.{entry_width}
use Rattle.table_fill.specs.Lifted.{name_column}
use Rattle.table_fill.proofs.Lifts.{relinking_start, relinking_low, relinking_more, relinking_first, relinking_all}
use Rattle.table_fill.proofs.relink.Goals as goal

pub loop-k-init : goal.loop-k-init
loop-k-init c = let a = c.args in (relinking_start a.table.now a.entry a.count a.by c.requires a.count refl, λ h. h)

pub overflow_add-i : goal.overflow_add-i
overflow_add-i c = omega (arith, relinking_low c.args.table.now c.args.entry c.args.count c.args.by c.requires c.loop-k.k c.loop-k.table c.loop-k.invariant.0, c.loop-k-test.true, c.requires)

pub overflow_mul-i : goal.overflow_mul-i
overflow_mul-i c = omega (arith, relinking_low c.args.table.now c.args.entry c.args.count c.args.by c.requires c.loop-k.k c.loop-k.table c.loop-k.invariant.0, c.loop-k-test.true, c.requires)

pub offset_bounds-table-i : goal.offset_bounds-table-i
offset_bounds-table-i c = omega (arith, relinking_low c.args.table.now c.args.entry c.args.count c.args.by c.requires c.loop-k.k c.loop-k.table c.loop-k.invariant.0, c.loop-k-test.true, c.requires)

pub bounds-table-i : goal.bounds-table-i
bounds-table-i c = omega (arith, relinking_low c.args.table.now c.args.entry c.args.count c.args.by c.requires c.loop-k.k c.loop-k.table c.loop-k.invariant.0, c.loop-k-test.true, c.requires, c.loop-k.invariant.0.long)

pub offset_bounds-table-i-in-loop-k : goal.offset_bounds-table-i-in-loop-k
offset_bounds-table-i-in-loop-k c = omega (arith, relinking_low c.args.table.now c.args.entry c.args.count c.args.by c.requires c.loop-k.k c.loop-k.table c.loop-k.invariant.0, c.loop-k-test.true, c.requires, c.loop-k.invariant.0.long)

pub bounds-table-i-in-loop-k : goal.bounds-table-i-in-loop-k
bounds-table-i-in-loop-k c = omega (arith, relinking_low c.args.table.now c.args.entry c.args.count c.args.by c.requires c.loop-k.k c.loop-k.table c.loop-k.invariant.0, c.loop-k-test.true, c.requires, c.loop-k.invariant.0.long)

pub loop-k-preserved : goal.loop-k-preserved
loop-k-preserved c =
    let a = c.args in
    let l = c.loop-k in
    let hk : l.k ≡ suc (l.k - 1) = omega (arith, c.loop-k-test.true) in
    let pos : 0 < l.k - 1 = omega (arith, c.loop-k-test.true) in
    (relinking_more a.table.now a.entry a.count a.by c.requires l.k (l.k - 1) hk pos l.table l.invariant.0 (entry_width * (a.entry + (l.k - 1))) c.saturating_add.result refl c.saturating_add.ensures _ refl, λ h. pos)

pub overflow_mul-first : goal.overflow_mul-first
overflow_mul-first c = omega (arith, relinking_low c.args.table.now c.args.entry c.args.count c.args.by c.requires c.loop-k.k c.loop-k.table c.loop-k.invariant.0, c.if-count-ne0.true, c.requires)

pub overflow_add-table : goal.overflow_add-table
overflow_add-table c = omega (arith, relinking_low c.args.table.now c.args.entry c.args.count c.args.by c.requires c.loop-k.k c.loop-k.table c.loop-k.invariant.0, c.if-count-ne0.true, c.requires)

pub bounds-table-first : goal.bounds-table-first
bounds-table-first c = omega (arith, relinking_low c.args.table.now c.args.entry c.args.count c.args.by c.requires c.loop-k.k c.loop-k.table c.loop-k.invariant.0, c.if-count-ne0.true, c.requires, c.loop-k.invariant.0.long)

pub bounds-table-first-then-count-ne0 : goal.bounds-table-first-then-count-ne0
bounds-table-first-then-count-ne0 c = omega (arith, relinking_low c.args.table.now c.args.entry c.args.count c.args.by c.requires c.loop-k.k c.loop-k.table c.loop-k.invariant.0, c.if-count-ne0.true, c.requires, c.loop-k.invariant.0.long, length-set c.loop-k.table (entry_width * c.args.entry + name_column) 0)

pub shape_of-table-then-count-ne0 : goal.shape_of-table-then-count-ne0
shape_of-table-then-count-ne0 c =
    let a = c.args in
    let l = c.loop-k in
    let first = entry_width * a.entry in
    length-set (set l.table (first + name_column) 0) first c.entries_between.result ∙ length-set l.table (first + name_column) 0 ∙ l.invariant.0.long

pub returns-then-count-ne0 : goal.returns-then-count-ne0
returns-then-count-ne0 c =
    let a = c.args in
    let l = c.loop-k in
    let some : 0 < a.count = omega (arith, c.if-count-ne0.true) in
    let last : l.k ≡ 1 = omega (arith, l.invariant.1 some, c.loop-k-test.false) in
    relinking_all a.table.now a.entry a.count a.by 0 _ (relinking_first a.table.now a.entry a.count a.by c.requires l.k last l.table l.invariant.0 (entry_width * a.entry) c.entries_between.result refl c.entries_between.ensures _ _ refl refl) refl

pub shape_of-table-else-count-ne0 : goal.shape_of-table-else-count-ne0
shape_of-table-else-count-ne0 c = c.loop-k.invariant.0.long

pub returns-else-count-ne0 : goal.returns-else-count-ne0
returns-else-count-ne0 c =
    let a = c.args in
    let l = c.loop-k in
    let z : entry_width * l.k ≡ 0 = omega (arith, c.if-count-ne0.false, c.loop-k-test.false) in
    relinking_all a.table.now a.entry a.count a.by (entry_width * l.k) l.table l.invariant.0 z
