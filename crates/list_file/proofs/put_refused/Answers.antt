-- `list_file::put_refused` meets its contract: measured, and then put.
use native.Mathlib.Omega.{arith}
use Rattle.list_file.proofs.Whole.{line_28, line_written, line_known}
use Rattle.list_file.proofs.put_refused.Goals as goal

pub returns-then-out-n : goal.returns-then-out-n
returns-then-out-n c = line_known _ _ _ _ _ c.number-number.ensures (line_28 _ _ _ _ _ (omega arith) (omega arith) c.put_line-n.ensures c.if-out-n.true)

pub returns : goal.returns
returns c = line_known _ _ _ _ _ c.number-number.ensures (line_written _ _ _ _ _ (omega arith) (omega arith) c.put_line-n.ensures _ _ c.if-out-n.false c.put_line.ensures)
