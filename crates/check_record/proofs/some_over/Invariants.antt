-- `check_record::some_over` meets its contract. The loop keeps that no entry passed is over.
use Rattle.dtype.specs.Seen.{over_at}
use mathlib.Core.Bool.{false}
use mathlib.Core.Path.{◌≡◌}
use Prim.Native.Nat.{ℕ, ◌<◌, ◌≤◌}
use Rattle.check_record.proofs.some_over.Given as goal

abbrev pub invariant-loop-e : goal.invariant-loop-e
invariant-loop-e l = (l.e ≤ l.n) × ((k : ℕ) → k < l.e → over_at l.table k ≡ false)
