-- `place_item::in_range` meets its contract. The loop keeps that each number passed is in range.
use lib.ListN.{length, get_or}
use Prim.Native.Nat.{ℕ, ◌<◌, ◌≤◌}
use Rattle.place_item.proofs.in_range.Given as goal

abbrev pub invariant-loop-k : goal.invariant-loop-k
invariant-loop-k l = (l.k ≤ length l.shape) × ((j : ℕ) → j < l.k → get_or l.index j 0 < get_or l.shape j 0)
