-- `check_scan::too_deep` meets its contract. The loop, from the last entry back, keeps that no entry from e on begins more than 32 array levels, and that `levels` is how
-- many entry e begins (`Deepening`).
use native.Mathlib.Omega.{arith}
use Rattle.check_scan.proofs.Levels.{deepening_start, deepening_over, deepening_next, deepening_end}
use Rattle.check_scan.proofs.too_deep.Goals as goal

pub loop-e-init : goal.loop-e-init
loop-e-init c = deepening_start _ _

pub returns-then-levels-gt-MOST_LEVELS : goal.returns-then-levels-gt-MOST_LEVELS
returns-then-levels-gt-MOST_LEVELS c = let l = c.loop-e in deepening_over _ _ l.levels l.e l.invariant c.loop-e-test.true _ c.entry_at-entry.ensures _ c.level-levels.ensures (omega (arith, c.if-levels-gt-MOST_LEVELS.true))

pub loop-e-preserved : goal.loop-e-preserved
loop-e-preserved c = let l = c.loop-e in deepening_next _ _ l.levels l.e l.invariant c.loop-e-test.true _ c.entry_at-entry.ensures _ c.level-levels.ensures (omega (arith, c.if-levels-gt-MOST_LEVELS.false))

pub returns : goal.returns
returns c = deepening_end _ _ c.loop-e.levels c.loop-e.e c.loop-e.invariant c.loop-e-test.false
