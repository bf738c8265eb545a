-- `table_entry::letter_of` meets its contract: no letter is over 255.
use native.Mathlib.Omega.{arith}
use Rattle.table_entry.proofs.Types.{letter_past}
use Rattle.table_entry.proofs.letter_of.Goals as goal

pub returns-in_err-ok : goal.returns-in_err-ok
returns-in_err-ok c = rw c.from_residual.ensures (letter_past _ (grind arith))
