-- All end as the items from the gap on do; each item that is read leaves less of the text.
use borrow.Enum.Refused.{opened}
use mathlib.Core.Path.{refl, sym, ◌∙◌}
use Rattle.literal.specs.Literal.{value as value_of}
use Rattle.literal.proofs.Ends.{value_ahead}
use Rattle.literal_bytes.proofs.Ends.{stops}
use Rattle.literal.proofs.Steps.{turn_less}
use Rattle.descr_field.proofs.Reach.{from_end, from_stop, from_more}
use Rattle.descr_field.proofs.rest.Goals as goal

pub loop-g-init : goal.loop-g-init
loop-g-init c = refl

pub returns-in_default : goal.returns-in_default
returns-in_default c =
    let a = c.args in
    let l = c.loop-g in
    c.ended.ensures ∙ (from_end a.room a.text.now a.close l.g (opened c.in_default.in_default-own.keys2) ∙ sym l.invariant)

pub returns-in_default-r : goal.returns-in_default-r
returns-in_default-r c =
    let a = c.args in
    let l = c.loop-g in
    from_stop a.room a.text.now a.close l.g _ c.value-r.result c.in-Item.is c.value-r.ensures (stops c.value-r.result (opened c.in_default-r.in_default-r-own.keys2)) ∙ sym l.invariant

pub loop-g-smaller : goal.loop-g-smaller
loop-g-smaller c =
    let a = c.args in
    turn_less (value_of a.room a.text.now) a.text.now a.close a.from (value_ahead a.room a.text.now) c.ranges.close.fits c.loop-g.g c.then_at-g.result _ _ c.value-r.result c.in-Item.is c.in-Value.is c.value-r.ensures c.then_at-g.ensures

pub loop-g-preserved : goal.loop-g-preserved
loop-g-preserved c =
    let a = c.args in
    c.loop-g.invariant ∙ from_more a.room a.text.now a.close c.ranges.close.fits c.loop-g.g c.then_at-g.result _ _ c.value-r.result c.in-Item.is c.in-Value.is c.value-r.ensures c.then_at-g.ensures
