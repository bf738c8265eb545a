-- The first i numbers are the head's bytes.
use Rattle.header_feed.proofs.Copies.{Copying}
use Rattle.npy_codes.proofs.with_head.Given as goal

abbrev pub invariant-loop-i : goal.invariant-loop-i
invariant-loop-i l = Copying l.initial.numbers 0 l.head 12 l.i l.numbers
