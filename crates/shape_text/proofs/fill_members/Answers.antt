-- The loop over the members keeps that the numbers from the gap on, put after the i that were put, make the whole row, and that it stops where they stop (`Filling`).
use borrow.Enum.Refused.{opened}
use native.Mathlib.Omega.{arith}
use Rattle.literal.specs.Literal as read
use Rattle.literal.proofs.Ends.{value_ahead}
use Rattle.literal.proofs.Steps.{turn_less}
use Rattle.shape_text.proofs.Stored.{filling_start, filling_end, filling_stop, filling_none, filling_count, filling_more}
use Rattle.shape_text.proofs.fill_members.Goals as goal

pub loop-g-init : goal.loop-g-init
loop-g-init c =
    let a = c.args in
    filling_start a.room a.text.now a.close a.from a.out.now c.gap_at-g.result c.gap_at-g.ensures

pub shape_of-out-in_default : goal.shape_of-out-in_default
shape_of-out-in_default c = c.loop-g.invariant.same

pub returns-in_default : goal.returns-in_default
returns-in_default c =
    let a = c.args in
    let l = c.loop-g in
    filling_end a.room a.text.now a.close a.from a.out.now l.out l.g l.i l.invariant (opened c.in_default.in_default-own.keys2)

pub shape_of-out-in_default-ended : goal.shape_of-out-in_default-ended
shape_of-out-in_default-ended c = c.loop-g.invariant.same

pub returns-in_default-ended : goal.returns-in_default-ended
returns-in_default-ended c =
    let a = c.args in
    let l = c.loop-g in
    filling_stop a.room a.text.now a.close a.from a.out.now l.out l.g l.i l.invariant _ c.member_at-m.result.ended c.in-Item.is c.member_at-m.ensures.ended_value (opened c.in_default-ended.in_default-ended-own.keys2)

pub shape_of-out-in_default-size : goal.shape_of-out-in_default-size
shape_of-out-in_default-size c = c.loop-g.invariant.same

pub returns-in_default-size : goal.returns-in_default-size
returns-in_default-size c =
    let a = c.args in
    let l = c.loop-g in
    let m = c.member_at-m in
    filling_none a.room a.text.now a.close a.from a.out.now l.out l.g l.i l.invariant _ m.result.ended c.in-Item.is m.ensures.ended_value m.result.size m.ensures.size_at _ c.in-Value.is _ c.in_default-size.is

pub overflow_add-i : goal.overflow_add-i
overflow_add-i c =
    let a = c.args in
    let l = c.loop-g in
    let n = filling_count a.room a.text.now a.close a.from a.out.now l.out l.g l.i l.invariant _ c.member_at-m.result.ended c.in-Item.is c.member_at-m.ensures.ended_value c.member_at-m.result.size c.member_at-m.ensures.size_at _ c.in-Value.is in
    omega arith

pub loop-g-smaller : goal.loop-g-smaller
loop-g-smaller c =
    let a = c.args in
    let l = c.loop-g in
    let s = a.text.now in
    turn_less (read.value a.room s) s a.close a.from (value_ahead a.room s) c.ranges.close.fits l.g c.then_at-g.result _ _ c.member_at-m.result.ended c.in-Item.is c.in-Value.is c.member_at-m.ensures.ended_value c.then_at-g.ensures

pub loop-g-preserved : goal.loop-g-preserved
loop-g-preserved c =
    let a = c.args in
    let l = c.loop-g in
    filling_more a.room a.text.now a.close a.from a.out.now l.out l.g l.i l.invariant _ c.member_at-m.result.ended c.in-Item.is c.member_at-m.ensures.ended_value c.member_at-m.result.size c.member_at-m.ensures.size_at _ c.in-Value.is c.ranges.close.fits _ c.then_at-g.result _ c.in-Ok.is c.put.ensures c.then_at-g.ensures
