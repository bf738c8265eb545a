-- `header_feed::is_incomplete` meets its contract: 3 is the number of one refusal.
use mathlib.Core.Path.{ap}
use Prim.Native.Nat.{ℕ}
use lib.Dec.{eqb}
use Rattle.header_feed.proofs.is_incomplete.Goals as goal

pub returns : goal.returns
returns c = ap (λ (n : ℕ). eqb n 3) c.number.ensures
