-- The measure is what is left of the calls.
use Rattle.std.proofs.Common.{length}
use Rattle.run_feed.proofs.run_calls.Given as goal

abbrev pub decreases-loop-rest : goal.decreases-loop-rest
decreases-loop-rest g l = length l.rest
