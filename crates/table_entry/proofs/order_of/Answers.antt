-- `table_entry::order_of` meets its contract: no order is over 255.
use native.Mathlib.Omega.{arith}
use Rattle.table_entry.proofs.Types.{order_past}
use Rattle.table_entry.proofs.order_of.Goals as goal

pub returns-in_err-ok : goal.returns-in_err-ok
returns-in_err-ok c = rw c.from_residual.ensures (order_past _ (grind arith))
