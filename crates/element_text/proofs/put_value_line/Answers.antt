-- The text of the value and a line feed.
use Rattle.counts.proofs.HandedOn.{handed_on}
use Rattle.refusal.specs.Answers.{answer}
use mathlib.Core.List.{◌∷◌}
use Rattle.counts.proofs.OneOutcome.{matched}
use Rattle.emit.proofs.Pieces.{emits_then}
use Rattle.element_text.specs.Text.{value_text, lined}
use Rattle.element_text.proofs.Lines.{puts_each, refuses_each}
use Rattle.element_text.proofs.put_value_line.Goals as goal

pub returns : goal.returns
returns c = puts_each (λ v. lined (value_text v)) _ _ _ _ _ (matched answer c.read.ensures c.in_ok-v.was) (emits_then (value_text c.in_ok-v.v) (λ x. 10 ∷ x) _ _ _ _ _ _ c.put_value-end.ensures c.put.ensures)

pub returns-in_err-v : goal.returns-in_err-v
returns-in_err-v c = rw (handed_on _ c.in_err-v.field-0.0 c.from_residual.ensures)
    (refuses_each (λ v. lined (value_text v)) _ _ _ (matched answer c.read.ensures c.in_err-v.was))
