-- `list_text::put_parent` meets its contract: the outermost entry, or another.
use Rattle.list_text.proofs.Pieces.{no_parent, a_parent}
use Rattle.list_text.proofs.put_parent.Goals as goal

pub returns-then-e-eq0 : goal.returns-then-e-eq0
returns-then-e-eq0 c = no_parent c.args.parent _ _ _ _ c.args.e c.if-e-eq0.true c.put.ensures

pub returns : goal.returns
returns c = a_parent c.args.parent _ _ _ _ c.args.e c.if-e-eq0.false c.put_count.ensures
