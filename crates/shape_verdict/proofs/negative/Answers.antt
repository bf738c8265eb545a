-- By whether there is a number, and whether it is 0.
use mathlib.Core.Path.{sym, ◌∙◌}
use Rattle.shape_verdict.proofs.Signs.{negative_zero, negative_more, negative_over}
use Rattle.shape_verdict.proofs.negative.Goals as goal

pub returns-in-Some-eq0-clause-by_index : goal.returns-in-Some-eq0-clause-by_index
returns-in-Some-eq0-clause-by_index c = λ m e. negative_zero _ _ m c.in-Some-eq0.is (sym c.in-Some-eq0.field-0-is ∙ c.in-Some-eq0.field-0-test) e

pub returns-in-Some-clause-by_index : goal.returns-in-Some-clause-by_index
returns-in-Some-clause-by_index c = λ m e. negative_more _ _ m c.in-Some.is (λ z. c.in-Some.field-0-test.1 (c.in-Some.field-0-is ∙ z)) e

pub returns-in-None-clause-by_index : goal.returns-in-None-clause-by_index
returns-in-None-clause-by_index c = λ m e. negative_over _ m c.in-None.is e
