-- `place_item::item_number` meets its contract: each answer by the tests that led there.
use Rattle.counts.proofs.HandedOn.{handed_on}
use Rattle.place_item.proofs.Items.{number_13, number_22, number_26, number_over, number_gives}
use native.Mathlib.Omega.{arith}
use borrow.Author.Tests.{not-true, not-false}
use mathlib.Core.Path.{sym, ap, ◌∙◌}
use Rattle.refusal.specs.Answers.{items_answer}
use Rattle.place_item.proofs.item_number.Goals as goal

pub returns-then-shape-gt-MOST_DIMENSIONS : goal.returns-then-shape-gt-MOST_DIMENSIONS
returns-then-shape-gt-MOST_DIMENSIONS c = number_13 _ _ _ c.if-shape-gt-MOST_DIMENSIONS.true

pub returns-in_err-count : goal.returns-in_err-count
returns-in_err-count c = rw (handed_on _ c.in_err-count.field-0.0 c.from_residual.ensures)
    (ap items_answer (sym c.in_err-count.was) ∙ number_22 _ _ _ _ _ _ c.strides.ensures (omega arith) c.if-shape-gt-MOST_DIMENSIONS.false _ c.in_err-count.was)

pub returns-then-not-in_range : goal.returns-then-not-in_range
returns-then-not-in_range c =
    number_26 _ _ _ _ _ _ c.strides.ensures (omega arith) c.if-shape-gt-MOST_DIMENSIONS.false _ c.in_ok-count.was (sym c.in_range.ensures ∙ not-true _ c.if-not-in_range.true-raw)

pub returns-in-Some : goal.returns-in-Some
returns-in-Some c =
    number_gives _ _ _ _ _ _ c.strides.ensures (omega arith) c.if-shape-gt-MOST_DIMENSIONS.false _ c.in_ok-count.was (sym c.in_range.ensures ∙ not-false _ c.if-not-in_range.false-raw) _ (sym c.in-Some.is ∙ c.sum_of_products.ensures)

pub returns-in-None : goal.returns-in-None
returns-in-None c =
    number_over _ _ _ _ _ _ c.strides.ensures (omega arith) c.if-shape-gt-MOST_DIMENSIONS.false _ c.in_ok-count.was (sym c.in_range.ensures ∙ not-false _ c.if-not-in_range.false-raw) (sym c.in-None.is ∙ c.sum_of_products.ensures)
