-- By the exponent.
use borrow.Author.Tests.{eq-eqb, ne_eqb}
use Rattle.element_text.proofs.lead_digit.Goals as goal

pub returns-then-exponent-eq0 : goal.returns-then-exponent-eq0
returns-then-exponent-eq0 c = rw (eq-eqb c.args.exponent 0 c.if-exponent-eq0.true)

pub returns-else-exponent-eq0 : goal.returns-else-exponent-eq0
returns-else-exponent-eq0 c = rw (ne_eqb c.args.exponent 0 c.if-exponent-eq0.false)
