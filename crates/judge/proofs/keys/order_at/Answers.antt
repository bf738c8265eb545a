-- The key's own value, or the order as it was.
use borrow.Enum.Refused.{opened}
use Rattle.judge.proofs.Seek.{order_here, order_kept}
use Rattle.judge.proofs.keys.order_at.Goals as goal

pub returns-in-Order : goal.returns-in-Order
returns-in-Order c =
    let a = c.args in
    order_here a.text.now a.at a.name a.was c.word_at.result c.in-Order.is c.word_at.ensures.word_at

pub returns-in-Descr : goal.returns-in-Descr
returns-in-Descr c = let a = c.args in order_kept a.text.now a.at a.name a.was (opened c.in-Descr.in-Descr-own.keys2)
