-- By the two cases of the count.
use mathlib.Core.Path.{refl}
use Rattle.shape_verdict.specs.Outline.{scaled_by}
use Rattle.shape_verdict.proofs.scaled.Goals as goal

pub returns : goal.returns
unfolding scaled_by
returns c = rw c.in_ok-a.was c.times.ensures

pub returns-in_err-a : goal.returns-in_err-a
unfolding scaled_by
returns-in_err-a c = rw (c.from_residual.ensures, c.in_err-a.was) refl
