-- The loop over the members keeps that the list ends as its members from the gap on do, and that its verdict is the one on the members met, extended by those from the gap on
-- (`Walking`).
use borrow.Enum.Refused.{opened}
use native.Mathlib.Omega.{arith}
use Rattle.literal.specs.Literal as read
use Rattle.literal.proofs.Ends.{value_ahead}
use Rattle.literal.proofs.Steps.{turn_less}
use Rattle.shape_text.proofs.Walking.{walking_start, walking_end, walking_stop, walking_more}
use Rattle.shape_text.proofs.members.Goals as goal

pub loop-g-init : goal.loop-g-init
loop-g-init c =
    let a = c.args in
    walking_start a.room a.text.now a.close a.from a.met c.gap_at-g.result c.ranges.close.fits c.requires c.gap_at-g.ensures

pub returns-in_default : goal.returns-in_default
returns-in_default c =
    let a = c.args in
    let l = c.loop-g in
    walking_end a.room a.text.now a.close a.from a.met l.g l.verdict c.shut.result l.invariant c.shut.ensures (opened c.in_default.in_default-own.keys2)

pub returns-in_default-ended : goal.returns-in_default-ended
returns-in_default-ended c =
    let a = c.args in
    let l = c.loop-g in
    walking_stop a.room a.text.now a.close a.from a.met l.g l.verdict c.in-Item.p c.member_at-m.result.ended l.invariant c.in-Item.is c.member_at-m.ensures.ended_value (opened c.in_default-ended.in_default-ended-own.keys2)

pub loop-g-smaller : goal.loop-g-smaller
loop-g-smaller c =
    let a = c.args in
    let s = a.text.now in
    turn_less (read.value a.room s) s a.close a.from (value_ahead a.room s) c.ranges.close.fits c.loop-g.g c.then_at-g.result c.in-Item.p c.in-Value.q c.member_at-m.result.ended c.in-Item.is c.in-Value.is c.member_at-m.ensures.ended_value c.then_at-g.ensures

pub loop-g-preserved : goal.loop-g-preserved
loop-g-preserved c =
    let a = c.args in
    let l = c.loop-g in
    walking_more a.room a.text.now a.close a.from a.met c.ranges.close.fits l.g c.then_at-g.result l.verdict c.joined-verdict.result c.in-Item.p c.in-Value.q c.member_at-m.result.ended c.member_at-m.result.size c.in-Item.is c.in-Value.is c.member_at-m.ensures.ended_value c.member_at-m.ensures.size_at c.joined-verdict.ensures c.then_at-g.ensures (omega arith) l.invariant
