-- `shape::count` meets its contract. The loop keeps that `acc` is the product of the dimensions passed, and that it and those before it fit (`Counting`); a product that does not fit
-- is the count or a stride.
use Rattle.shape.proofs.Turns.{Counting}
use Rattle.shape.proofs.count.Given as goal

abbrev pub invariant-loop-k : goal.invariant-loop-k
invariant-loop-k l = Counting l.order l.shape l.product.0 l.k
