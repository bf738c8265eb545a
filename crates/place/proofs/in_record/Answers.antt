-- `place::in_record` meets its contract: the item's refusals first, then what the path names in the item.
use Rattle.counts.proofs.HandedOn.{handed_on}
use Rattle.refusal.specs.Answers.{answer}
use Rattle.check_table.proofs.Readable.{readable_typed}
use Rattle.place_area.proofs.Answers.{item_shows}
use Rattle.place.specs.Walk.{Finds, Accepted}
use Rattle.place.proofs.Placing.{answer_refused, follow_asks, answer_path, answer_over, answer_at}
use Rattle.dtype.specs.Dtype.{Dtype}
use Rattle.counts.proofs.OneOutcome.{matched}
use native.Mathlib.Omega.{arith}
use mathlib.Core.List.{List}
use mathlib.Core.Path.{sym, ◌∙◌}
use Prim.Native.Nat.{ℕ}
use Rattle.place.proofs.in_record.Goals as goal
use Rattle.place.proofs.in_record.Goals.{After-follow}

pub follow-requires : goal.follow-requires
follow-requires c =
    let p = c.requires in
    let asks = follow_asks _ p.0 _ _ p.1 _ _ p.2 _ (item_shows _ _ _ _ _ _ _ _ (matched answer c.item.ensures c.in_ok-item.was)).0 in
    (p.1, asks.0, asks.1)

-- what the path leads to
follow_here : (c : goal.After-follow) (ns : List ℕ) (d : Dtype)
    → let a = c.args in
    Accepted a.given.table.now ns a.given.shape.now a.given.order d a.size a.count → Finds d a.path.now c.follow.result
follow_here c ns d a =
    let asks = follow_asks _ ns _ _ d _ _ a _ (item_shows _ _ _ _ _ _ _ _ (matched answer c.item.ensures c.in_ok-item.was)).0 in
    c.follow.ensures d asks.0 asks.1 (readable_typed d a.valid.readable)

pub returns-in_err-run : goal.returns-in_err-run
returns-in_err-run c = λ ns d a.
    rw (handed_on _ c.in_err-run.field-0.0 c.from_residual-in_err-run.ensures)
    (answer_path _ ns _ _ d _ _ a _ _ _ _ _ (matched answer c.item.ensures c.in_ok-item.was) _ (rw c.in_err-run.was at (follow_here (goal.at.returns-in_err-run c).After-follow ns d a)))

pub returns-in_default : goal.returns-in_default
returns-in_default c = λ ns d a.
    answer_over _ ns _ _ d _ _ a _ _ _ _ _ (matched answer c.item.ensures c.in_ok-item.was) _ (rw c.in_ok-run.was at (follow_here (goal.at.returns-in_default c).After-follow ns d a))
    (omega arith) (sym c.in_default.is ∙ c.first_byte.ensures)

pub returns : goal.returns
returns c = λ ns d a.
    answer_at _ ns _ _ d _ _ a _ _ _ _ _ (matched answer c.item.ensures c.in_ok-item.was) _ (rw c.in_ok-run.was at (follow_here (goal.at.returns c).After-follow ns d a)) _
    (sym c.in-Some.is ∙ c.first_byte.ensures)

pub returns-in_err-item : goal.returns-in_err-item
returns-in_err-item c = λ ns d a. rw (handed_on _ c.in_err-item.field-0.0 c.from_residual.ensures) (answer_refused _ ns _ _ d _ _ a _ _ _ _ _ (matched answer c.item.ensures c.in_err-item.was))
