-- `write::put_text` meets its contract: where there is a record to print, it is not refused.
use Rattle.refusal.specs.Answers.{answer}
use mathlib.Core.Path.{sym, ap, ◌∙◌}
use Rattle.counts.proofs.Apart.{gives_refused}
use Rattle.write_text.proofs.Prints.{text_at, unprinted_refused}
use Rattle.write.proofs.put_text.Goals as goal

pub returns-in_default : goal.returns-in_default
returns-in_default c = λ x e. gives_refused (sym e ∙ unprinted_refused _ _ _ _ _ _ (ap answer c.in_default.is) c.put_text.ensures)

pub returns : goal.returns
returns c = λ x e. text_at _ _ _ x e _ _ c.in-Ok.is _ c.put_text.ensures
