-- The loop over the members keeps that the numbers from the gap on, put after the i that were put, make the whole row, and that it stops where they stop (`Filling`).
use lib.ListN.{length}
use Rattle.literal.proofs.Steps.{gap_left}
use Rattle.shape_text.proofs.Stored.{Filling}
use Rattle.shape_text.proofs.fill_members.Given as goal

abbrev pub invariant-loop-g : goal.invariant-loop-g
invariant-loop-g l = Filling l.room l.text l.close l.from l.initial.out l.out l.g l.i

abbrev pub decreases-loop-g : goal.decreases-loop-g
decreases-loop-g l = gap_left (length l.text) l.g
