-- `saturating::held_bytes` meets its contract, by the three results of `num_bytes`.
use Rattle.saturating.proofs.Held.{sized_held, unsized_held, large_held}
use mathlib.Core.Path.{sym, ◌∙◌}
use Rattle.saturating.proofs.held_bytes.Goals as goal

pub returns-in-Sized : goal.returns-in-Sized
returns-in-Sized c = sized_held _ _ (sym c.in-Sized.is ∙ c.num_bytes.ensures)

pub returns-in-Unsized : goal.returns-in-Unsized
returns-in-Unsized c = unsized_held _ (sym c.in-Unsized.is ∙ c.num_bytes.ensures)

pub returns-in-TooLarge : goal.returns-in-TooLarge
returns-in-TooLarge c = large_held _ (sym c.in-TooLarge.is ∙ c.num_bytes.ensures)
