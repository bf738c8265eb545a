-- The levels from k on have been written, and one more is written before them.
use Prim.Native.Nat.{suc, ◌-◌}
use native.Mathlib.Omega.{arith}
use mathlib.Core.Path.{◌≡◌, refl, ap}
use Rattle.counts.specs.declared.Bytes.{Bytes}
use Rattle.counts.proofs.Counted.{bytes_eq}
use Rattle.table_fill.proofs.Levels.{above_start, above_more, above_all}
use Rattle.table_fill.proofs.put_levels.Goals as goal

pub loop-k-init : goal.loop-k-init
loop-k-init c = let a = c.args in above_start a.shape.now a.entry a.up a.name a.stop a.size.0 a.table.now

pub bounds-shape-k : goal.bounds-shape-k
bounds-shape-k c = omega (arith, c.loop-k.invariant.low, c.loop-k-test.true)

pub bounds-shape-k-in-loop-k : goal.bounds-shape-k-in-loop-k
bounds-shape-k-in-loop-k c = omega (arith, c.loop-k.invariant.low, c.loop-k-test.true)

pub loop-k-preserved : goal.loop-k-preserved
loop-k-preserved c =
    let a = c.args in
    let l = c.loop-k in
    let hk : l.k ≡ suc (l.k - 1) = omega (arith, c.loop-k-test.true) in
    above_more a.shape.now a.entry a.up a.name a.stop a.size.0 a.table.now l.k (l.k - 1) l.table l.held.0 l.invariant hk _ c.held_product-held.result.0 refl (ap (λ (b : Bytes). b.0) c.held_product-held.ensures) _ c.put_level.ensures

pub shape_of-table : goal.shape_of-table
shape_of-table c = c.loop-k.invariant.long

pub returns : goal.returns
returns c =
    let a = c.args in
    let l = c.loop-k in
    let all = above_all a.shape.now a.entry a.up a.name a.stop a.size.0 a.table.now l.k l.table l.held.0 l.invariant (omega (arith, c.loop-k-test.false)) in
    record { value = bytes_eq all.0; table_after = all.1 }
