-- By the test.
use Rattle.descr_totals.proofs.unless_empty.Goals as goal

pub returns-then-empty : goal.returns-then-empty
returns-then-empty c = rw c.if-empty.true
