-- `header_feed::copy` meets its contract. The loop keeps that the first i bytes are copied.
use Rattle.header_feed.proofs.Copies.{Copying}
use Rattle.header_feed.proofs.copy.Given as goal

abbrev pub invariant-loop-i : goal.invariant-loop-i
invariant-loop-i l = Copying l.initial.out l.at l.from l.n l.i l.out
