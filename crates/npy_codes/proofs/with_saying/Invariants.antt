-- The first i numbers of what is said are copied.
use Rattle.header_feed.proofs.Copies.{Copying}
use Rattle.npy_codes.proofs.with_saying.Given as goal

abbrev pub invariant-loop-i : goal.invariant-loop-i
invariant-loop-i l = Copying l.initial.all 13 l.says 7 l.i l.all
