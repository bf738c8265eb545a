-- The dimension is what `ok_or` says.
use mathlib.Core.Path.{ap, ◌∙◌}
use Rattle.refusal.specs.Answers.{answer}
use Rattle.shape_verdict.proofs.Signs.{positive_signed}
use Rattle.shape_verdict.proofs.positive.Goals as goal

pub returns-clause-by_index : goal.returns-clause-by_index
returns-clause-by_index c = λ m e. ap answer c.ok_or.ensures.value ∙ positive_signed _ m e
