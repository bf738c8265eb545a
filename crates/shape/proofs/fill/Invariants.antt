-- `shape::fill` meets its contract. The loop keeps that the strides of the dimensions passed are at their places, that the product so far is the stride of the next, and that the room after
-- the rank is as it was (`Filling`), so that no product is over.
use Rattle.shape.proofs.Turns.{Filling}
use Rattle.shape.proofs.fill.Given as goal

abbrev pub invariant-loop-k : goal.invariant-loop-k
invariant-loop-k l = Filling l.order l.shape l.initial.out l.stride.0 l.k l.out
