-- The invariant: the run from `from` on ends where the run from `at` on ends. A start past the end of the text is the end of the run.
use Prim.Native.Nat.{◌≤◌, max}
use mathlib.Core.Path.{◌≡◌}
use lib.ListN.{length}
use Rattle.literal_bytes.specs.Text.{past}
use Rattle.literal_bytes.proofs.past.Given as goal

abbrev pub invariant-loop-at : goal.invariant-loop-at
invariant-loop-at g l = (l.at ≤ max l.from (length l.text)) × (past (g.T.Test.passes l.test) l.text l.from ≡ past (g.T.Test.passes l.test) l.text l.at)
