-- `check_table::names_match` meets its contract. The loop keeps that the names of the entries passed are well-formed, and that the next one begins at `start`, which is in
-- the names (`Naming`).
use Rattle.check_table.proofs.Naming.{Naming}
use Rattle.check_table.proofs.names_match.Given as goal

abbrev pub invariant-loop-e : goal.invariant-loop-e
invariant-loop-e l = Naming l.table l.names l.n l.start l.e
