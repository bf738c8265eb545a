-- `shape::strides` meets its contract: what `count` refuses is refused (22), then the room is tested, then `fill` writes all strides.
use Rattle.counts.proofs.HandedOn.{handed_on}
use Rattle.counts.proofs.OneOutcome.{matched}
use Rattle.refusal.specs.Answers.{items_answer}
use Rattle.shape.proofs.Turns.{counted_fits, writes_refused, writes_room, writes_all}
use borrow.Author.Rules.{rules}
use Rattle.shape.proofs.strides.Goals as goal

pub returns-in_err-items : goal.returns-in_err-items
returns-in_err-items c = rw (handed_on _ c.in_err-items.field-0.0 c.from_residual.ensures)
    (writes_refused _ _ _ _ (matched items_answer c.count.ensures c.in_err-items.was))

pub returns-then-out-shape : goal.returns-then-out-shape
returns-then-out-shape c = writes_room _ _ _ _ (matched items_answer c.count.ensures c.in_ok-items.was) c.if-out-shape.true

pub fill-requires : goal.fill-requires
fill-requires c = (search rules, (counted_fits _ _ _ (matched items_answer c.count.ensures c.in_ok-items.was)).0)

pub returns : goal.returns
returns c = writes_all _ _ _ _ _ (matched items_answer c.count.ensures c.in_ok-items.was) (search rules) c.fill.ensures
