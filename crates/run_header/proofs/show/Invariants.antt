-- A line begins no later than it ends.
use Rattle.std.proofs.Common.{◌≤◌}
use Rattle.run_header.proofs.show.Given as goal

abbrev pub invariant-loop-i : goal.invariant-loop-i
invariant-loop-i g l = l.from ≤ l.i
