-- The definition's test.
use mathlib.Core.Path.{sym, ◌∙◌}
use Rattle.literal_runs.proofs.low_place.Goals as goal

pub returns-then-is_low : goal.returns-then-is_low
returns-then-is_low c = rw (sym c.is_low.ensures ∙ c.if-is_low.true)

pub returns-else-is_low : goal.returns-else-is_low
returns-else-is_low c = rw (sym c.is_low.ensures ∙ c.if-is_low.false)
