-- A store past the end is none.
use mathlib.Core.Path.{sym}
use lib.Seq.{set_out}
use Rattle.shape_text.proofs.put.Goals as goal

pub returns-else-at-out : goal.returns-else-at-out
returns-else-at-out c = sym (set_out c.args.out.now c.args.at c.args.n c.if-at-out.false)
