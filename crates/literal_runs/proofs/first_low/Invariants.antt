-- The invariant: the first low byte among those passed is at `first`; or none was, and the run continues.
use Rattle.literal_runs.specs.Low.{is_low}
use Rattle.literal_runs.proofs.Firsts.{Found}
use Rattle.literal_runs.proofs.first_low.Given as goal

abbrev pub invariant-loop-i : goal.invariant-loop-i
invariant-loop-i l = Found is_low l.block l.i l.first
