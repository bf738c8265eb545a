-- `table_entry::type_of` meets its contract: each part is read or refused, and then the whole is checked to be a type.
use mathlib.Core.Bool.{true, false}
use Rattle.table_entry.proofs.Types.{no_order, no_letter, no_units, whole_type}
use Rattle.type_letters.specs.Answer.{order_answer}
use Rattle.type_letters.specs.Answer.{letter_answer}
use Rattle.type_units.specs.Answer.{units_answer}
use Rattle.counts.proofs.OneOutcome.{matched}
use mathlib.Core.Path.{sym, ◌∙◌}
use Rattle.table_entry.proofs.type_of.Goals as goal

pub returns-in_err-order : goal.returns-in_err-order
returns-in_err-order c = rw c.from_residual.ensures (no_order _ (matched order_answer c.order_of.ensures c.in_err-order.was))

pub returns-in_err-letter : goal.returns-in_err-letter
returns-in_err-letter c = rw c.from_residual-in_err-letter.ensures (no_letter _ _ (matched order_answer c.order_of.ensures c.in_ok-order.was) (matched letter_answer c.letter_of.ensures c.in_err-letter.was))

pub returns-in_err-units : goal.returns-in_err-units
returns-in_err-units c = rw c.from_residual-in_err-units.ensures (no_units _ _ _ (matched order_answer c.order_of.ensures c.in_ok-order.was) (matched letter_answer c.letter_of.ensures c.in_ok-letter.was) (matched units_answer c.units_of.ensures c.in_err-units.was))

pub returns-then-is_type : goal.returns-then-is_type
returns-then-is_type c = whole_type _ _ _ (matched order_answer c.order_of.ensures c.in_ok-order.was) (matched letter_answer c.letter_of.ensures c.in_ok-letter.was) _ (matched units_answer c.units_of.ensures c.in_ok-units.was) true (sym c.if-is_type.true ∙ c.is_type.ensures)

pub returns-else-is_type : goal.returns-else-is_type
returns-else-is_type c = whole_type _ _ _ (matched order_answer c.order_of.ensures c.in_ok-order.was) (matched letter_answer c.letter_of.ensures c.in_ok-letter.was) _ (matched units_answer c.units_of.ensures c.in_ok-units.was) false (sym c.if-is_type.false ∙ c.is_type.ensures)
