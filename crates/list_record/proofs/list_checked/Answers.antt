-- `listing::list_checked` meets its contract: measured, and then put.
use native.Mathlib.Omega.{arith}
use Rattle.list_record.proofs.Whole.{one_28, one_written}
use Rattle.list_record.proofs.list_checked.Goals as goal

pub returns-then-out-n : goal.returns-then-out-n
returns-then-out-n c = λ d h. one_28 _ _ _ _ _ _ _ (omega arith) (omega arith) (c.put_all-n.ensures d h) c.if-out-n.true

pub returns : goal.returns
returns c = λ d h. one_written _ _ _ _ _ _ _ (omega arith) (omega arith) (c.put_all-n.ensures d h) _ _ c.if-out-n.false (c.put_all.ensures d h)
