-- `write_depth::brackets` meets its contract, by the kind.
use borrow.Author.Tests.{eq-eqb, ne_eqb}
use Rattle.write_depth.proofs.brackets.Goals as goal

pub returns-then-kind-eq-ARRAY : goal.returns-then-kind-eq-ARRAY
returns-then-kind-eq-ARRAY c = simp (eq-eqb _ 1 c.if-kind-eq-ARRAY.true)

pub returns-else-kind-eq-ARRAY : goal.returns-else-kind-eq-ARRAY
returns-else-kind-eq-ARRAY c = simp (ne_eqb _ 1 c.if-kind-eq-ARRAY.false)
