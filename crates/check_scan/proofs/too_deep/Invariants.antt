-- `check_scan::too_deep` meets its contract. The loop, from the last entry back, keeps that no entry from e on begins more than 32 array levels, and that `levels` is how
-- many entry e begins (`Deepening`).
use Rattle.check_scan.proofs.Levels.{Deepening}
use Rattle.check_scan.proofs.too_deep.Given as goal

abbrev pub invariant-loop-e : goal.invariant-loop-e
invariant-loop-e l = Deepening l.table l.n l.levels l.e
