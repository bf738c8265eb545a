-- `write_pieces::put_levels` meets its contract. The loop keeps that the dimensions from entry c on, put after those that were put, make the whole row (`Levels`); the measure is
-- what is left of the table.
use Prim.Native.Nat.{◌-◌}
use lib.ListN.{length}
use Rattle.write_pieces.proofs.Levels.{Levels}
use Rattle.write_pieces.proofs.put_levels.Given as goal

abbrev pub invariant-loop-level : goal.invariant-loop-level
invariant-loop-level l = Levels l.table l.e l.initial.out l.at l.out l.p l.c l.level

abbrev pub decreases-loop-level : goal.decreases-loop-level
decreases-loop-level l = length l.table - l.c
