-- `place_item::in_range` meets its contract. The loop keeps that each number passed is in range.
use Rattle.place_item.proofs.Sums.{wrong_length, out_at, all_in}
use borrow.Author.Count.{below_more}
use native.Mathlib.Omega.{arith}
use Rattle.place_item.proofs.in_range.Goals as goal

pub returns-then-shape-index : goal.returns-then-shape-index
returns-then-shape-index c = wrong_length c.args.shape.now c.args.index.now c.if-shape-index.true

pub loop-k-init : goal.loop-k-init
loop-k-init c = (omega arith, λ j l. absurd (omega arith))

pub returns-then-shape-k : goal.returns-then-shape-k
returns-then-shape-k c = out_at c.args.shape.now c.args.index.now c.loop-k.k c.if-shape-index.false c.loop-k-test.true (omega (arith, c.if-shape-k.true))

pub loop-k-preserved : goal.loop-k-preserved
loop-k-preserved c = (omega arith, below_more _ _ c.loop-k.invariant.1 (omega (arith, c.if-shape-k.false)))

pub returns : goal.returns
returns c = all_in c.args.shape.now c.args.index.now c.if-shape-index.false (λ j l. c.loop-k.invariant.1 j (omega (arith, c.loop-k-test.false)))
