-- A number past the room changes nothing.
use native.Mathlib.Omega.{arith}
use Rattle.emit.proofs.Pieces.{emits_out}
use Rattle.get_file.proofs.put_number.Goals as goal

pub returns : goal.returns
returns c = emits_out _ _ _ _ (omega arith) c.if-at-out.false c.saturating_add.ensures
