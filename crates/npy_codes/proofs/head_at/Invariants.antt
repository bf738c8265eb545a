-- The first i bytes are those of the numbers.
use Rattle.header_feed.proofs.Copies.{Copying}
use Rattle.npy_codes.specs.Feeders.{low_bytes}
use Rattle.npy_codes.proofs.head_at.Given as goal

abbrev pub invariant-loop-i : goal.invariant-loop-i
invariant-loop-i l = Copying l.initial.head 0 (low_bytes l.numbers) 12 l.i l.head
