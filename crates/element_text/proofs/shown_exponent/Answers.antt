-- By two tests.
use borrow.Author.Tests.{eq-eqb, ne_eqb}
use Rattle.element_text.proofs.shown_exponent.Goals as goal

pub returns-then-p-ne0 : goal.returns-then-p-ne0
returns-then-p-ne0 c = rw (ne_eqb c.args.p.exponent 0 c.if-p-ne0.true)

pub returns-then-p-eq0 : goal.returns-then-p-eq0
returns-then-p-eq0 c = rw (eq-eqb c.args.p.exponent 0 c.if-p-ne0.false, eq-eqb c.args.p.fraction 0 c.if-p-eq0.true)

pub returns-else-p-eq0 : goal.returns-else-p-eq0
returns-else-p-eq0 c = rw (eq-eqb c.args.p.exponent 0 c.if-p-ne0.false, ne_eqb c.args.p.fraction 0 c.if-p-eq0.false)
