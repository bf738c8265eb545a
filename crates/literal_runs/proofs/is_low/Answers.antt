-- The definition's two comparisons.
use mathlib.Core.Path.{refl}
use Rattle.literal_runs.specs.Low.{is_low}
use Rattle.literal_runs.proofs.is_low.Goals as goal

pub returns : goal.returns
unfolding is_low
returns c = refl
