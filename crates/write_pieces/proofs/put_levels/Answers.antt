-- `write_pieces::put_levels` meets its contract. The loop keeps that the dimensions from entry c on, put after those that were put, make the whole row (`Levels`); the measure is
-- what is left of the table.
use native.Mathlib.Omega.{arith}
use Rattle.write_pieces.proofs.Levels.{levels_start, levels_room, levels_next, levels_end}
use Rattle.write_pieces.proofs.put_levels.Goals as goal

pub loop-level-init : goal.loop-level-init
loop-level-init c = levels_start _ _ _ _ _ c.entry_at-level.ensures

pub overflow_add-c : goal.overflow_add-c
overflow_add-c c = let l = c.loop-level in omega (arith, levels_room _ _ _ _ _ l.p l.c l.level l.invariant c.loop-level-test.true)

pub loop-level-smaller : goal.loop-level-smaller
loop-level-smaller c = let l = c.loop-level in omega (arith, levels_room _ _ _ _ _ l.p l.c l.level l.invariant c.loop-level-test.true)

pub loop-level-preserved : goal.loop-level-preserved
loop-level-preserved c = let l = c.loop-level in levels_next _ _ _ _ _ l.p l.c l.level l.invariant c.loop-level-test.true _ _ c.put_dimension-p.ensures _ c.entry_at-level-in-loop-level.ensures

pub returns : goal.returns
returns c = let l = c.loop-level in levels_end _ _ _ _ _ l.p l.c l.level l.invariant c.loop-level-test.false
