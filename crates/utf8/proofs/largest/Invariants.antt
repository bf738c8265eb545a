-- `utf8::largest` meets its contract. The loop's invariant: no byte passed is above the largest so far. Past the end nothing is above it either.
use Prim.Native.Nat.{ℕ, ◌≤◌, ◌<◌}
use lib.ListN.{get_or}
use Rattle.utf8.proofs.largest.Given as goal

abbrev pub invariant-loop-b : goal.invariant-loop-b
invariant-loop-b l = (k : ℕ) → k < l.b-index → get_or l.text k 0 ≤ l.most
