-- A level below the outermost has no name.
use Rattle.table_fill.proofs.Levels.{name_later}
use Rattle.table_fill.proofs.name_of.Goals as goal

pub returns-else-k-eq0 : goal.returns-else-k-eq0
returns-else-k-eq0 c = name_later _ _ c.if-k-eq0.false
