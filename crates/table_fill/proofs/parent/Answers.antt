-- The level above is the entry before.
use mathlib.Core.Path.{◌∙◌}
use Rattle.table_fill.proofs.Levels.{up_first, up_later}
use Rattle.table_fill.proofs.parent.Goals as goal

pub returns-then-k-eq0 : goal.returns-then-k-eq0
returns-then-k-eq0 c = up_first _ _ _ c.if-k-eq0.true c.ranges.up.fits

pub returns : goal.returns
returns c = c.saturating_add.ensures ∙ up_later _ _ c.args.up c.if-k-eq0.false
