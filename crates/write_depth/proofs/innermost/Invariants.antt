-- `write_depth::innermost` meets its contract. The loop keeps that each entry passed is an array level (`Passed`). The measure is what is left of the table: no entry past its
-- end is an array level.
use Prim.Native.Nat.{◌-◌}
use lib.ListN.{length}
use Rattle.write_depth.proofs.Listing.{Passed}
use Rattle.write_depth.proofs.innermost.Given as goal

abbrev pub invariant-loop-c : goal.invariant-loop-c
invariant-loop-c l = Passed l.table l.e l.c

abbrev pub decreases-loop-c : goal.decreases-loop-c
decreases-loop-c l = length l.table - l.c
