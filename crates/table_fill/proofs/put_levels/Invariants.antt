-- The levels from k on have been written, and one more is written before them.
use Rattle.table_fill.proofs.Levels.{Above}
use Rattle.table_fill.proofs.put_levels.Given as goal

abbrev pub invariant-loop-k : goal.invariant-loop-k
invariant-loop-k l = Above l.shape l.entry l.up l.name l.stop l.initial.held.0 l.initial.table l.k l.table l.held.0
