-- The invariant: the run from `from` on ends where the run from `at` on ends; it continues after a block.
use Prim.Native.Nat.{◌-◌}
use mathlib.Core.Path.{◌≡◌}
use lib.ListN.{length}
use Rattle.literal_bytes.specs.Text.{past}
use Rattle.literal_bytes.proofs.past_far.Given as goal

abbrev pub invariant-loop-at : goal.invariant-loop-at
invariant-loop-at g l = past (g.T.Test.passes l.test) l.text l.from ≡ past (g.T.Test.passes l.test) l.text l.at

abbrev pub decreases-loop-at : goal.decreases-loop-at
decreases-loop-at g l = length l.text - l.at
