-- `check_record::item_size` meets its contract: none under an `O`, else what the first entry holds.
use mathlib.Core.Path.{sym, ◌∙◌}
use Rattle.check_record.proofs.item_size.Goals as goal

pub returns-then-has_object : goal.returns-then-has_object
returns-then-has_object c = simp (sym c.has_object.ensures ∙ c.if-has_object.true)

pub returns-else-has_object : goal.returns-else-has_object
returns-else-has_object c = simp (sym c.has_object.ensures ∙ c.if-has_object.false, c.entry_at.ensures)
