-- `place_area::first_byte` meets its contract, sum by sum.
use Rattle.place_area.proofs.Area.{before_over, item_over, first_is}
use mathlib.Core.Path.{sym, ◌∙◌}
use Rattle.place_area.proofs.first_byte.Goals as goal

pub returns-in_err-before : goal.returns-in_err-before
returns-in_err-before c = c.from_residual.ensures ∙ before_over c.args.start.0 c.args.which.0 c.args.size.0 c.args.offset.0 (sym c.in_err-before.was ∙ c.of_size.ensures)

pub returns-in_err-item : goal.returns-in_err-item
returns-in_err-item c = c.from_residual-in_err-item.ensures ∙ item_over c.args.start.0 c.args.which.0 c.args.size.0 c.args.offset.0 _ (sym c.in_ok-before.was ∙ c.of_size.ensures) (sym c.in_err-item.was ∙ c.plus.ensures)

pub returns : goal.returns
returns c = first_is c.args.start.0 c.args.which.0 c.args.size.0 c.args.offset.0 _ (sym c.in_ok-before.was ∙ c.of_size.ensures) _ (sym c.in_ok-item.was ∙ c.plus.ensures) _ c.plus-2.ensures
