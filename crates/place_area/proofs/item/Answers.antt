-- `place_area::item` meets its contract: each answer by the tests that led there.
use Rattle.counts.proofs.HandedOn.{handed_on}
use Rattle.place_area.proofs.Answers.{answer_24, answer_25, answer_item}
use Rattle.counts.proofs.OneOutcome.{matched}
use Rattle.refusal.specs.Answers.{items_answer}
use mathlib.Core.Path.{sym, ◌∙◌}
use Rattle.place_area.proofs.item.Goals as goal

pub returns-in_default : goal.returns-in_default
returns-in_default c = answer_24 _ _ _ _ _ _ _ c.in_default.is

pub returns-then-is_short : goal.returns-then-is_short
returns-then-is_short c = answer_25 _ _ _ _ _ _ _ _ c.in-Some.is (sym c.if-is_short.true ∙ c.is_short.ensures)

pub returns : goal.returns
returns c =
    answer_item _ _ _ _ _ _ _ _ c.in-Some.is (sym c.is_short.ensures ∙ c.if-is_short.false)
    _ (matched items_answer c.item_number.ensures c.in_ok-which.was)

pub returns-in_err-which : goal.returns-in_err-which
returns-in_err-which c = rw (handed_on _ c.in_err-which.field-0.0 c.from_residual.ensures)
    (answer_item _ _ _ _ _ _ _ _ c.in-Some.is (sym c.is_short.ensures ∙ c.if-is_short.false)
    _ (matched items_answer c.item_number.ensures c.in_err-which.was))
