-- `place::follow` meets its contract. The loop keeps that the first k numbers of the path lead to the dtype at entry e, `before` bytes into the item, and the rest of the path goes on
-- from there (`Walking`), so that these bytes are not over.
use Rattle.place.proofs.Walks.{Walking}
use Rattle.place.proofs.follow.Given as goal

abbrev pub invariant-loop-i : goal.invariant-loop-i
invariant-loop-i l = Walking l.table l.path l.e l.before.0 l.i-index
