-- `emit::put` meets its contract: a byte inside the room is stored, and one past it changes nothing.
use native.Mathlib.Omega.{arith}
use Rattle.emit.proofs.Pieces.{emits_in, emits_out}
use Rattle.emit.proofs.put.Goals as goal

pub returns-then-at-out : goal.returns-then-at-out
returns-then-at-out c = emits_in _ _ _

pub returns : goal.returns
returns c = emits_out _ _ _ _ (omega arith) c.if-at-out.false c.saturating_add.ensures
