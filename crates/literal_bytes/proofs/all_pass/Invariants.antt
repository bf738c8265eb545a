-- The invariant: the block passes where the bytes passed and those that are left do.
use mathlib.Core.Path.{◌≡◌}
use mathlib.Core.Bool.{◌&&◌}
use lib.ListN.{drop}
use Rattle.literal_bytes.specs.Text.{all_pass}
use Rattle.literal_bytes.proofs.all_pass.Given as goal

abbrev pub invariant-loop-b : goal.invariant-loop-b
invariant-loop-b g l = all_pass (g.T.Test.passes l.test) l.block ≡ l.all && all_pass (g.T.Test.passes l.test) (drop l.b-index l.block)
