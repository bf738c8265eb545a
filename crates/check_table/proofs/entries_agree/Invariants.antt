-- `check_table::entries_agree` meets its contract. The loop keeps that each entry from e on agrees.
use Rattle.check_table.specs.Decides.{SoundEntry}
use Prim.Native.Nat.{ℕ, ◌<◌, ◌≤◌}
use Rattle.check_table.proofs.entries_agree.Given as goal

abbrev pub invariant-loop-e : goal.invariant-loop-e
invariant-loop-e l = (l.e ≤ l.n) × ((k : ℕ) → l.e ≤ k → k < l.n → SoundEntry l.table l.n k)
