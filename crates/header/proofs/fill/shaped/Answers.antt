-- After the type comes nothing, or a sub-shape, which is read to a local array; the levels are written from it.
use borrow.Enum.Refused.{opened}
use native.Mathlib.Omega.{arith}
use mathlib.Core.Path.{refl, sym, ap, ◌∙◌}
use lib.ListN.{length}
use Rattle.shape_text.proofs.Stored.{stored_shape}
use Rattle.descr_field.specs.Begins.{gap_place}
use Rattle.header.proofs.FieldParts.{shaped_none, shape_there, shape_front, shaped_some}
use Rattle.header.proofs.fill.shaped.Goals as goal

pub returns-in_default : goal.returns-in_default
returns-in_default c =
    let a = c.args in
    λ e ns h. shaped_none a.room a.text.now a.close a.table.now a.r e ns h c.then_at-g.result c.then_at-g.ensures a.entry a.up a.name c.place_of.result (opened c.in_default.in_default-own.keys2) c.place_of.ensures

pub slice_bounds-shape-end : goal.slice_bounds-shape-end
slice_bounds-shape-end c =
    let a = c.args in
    let x = c.requires in
    let st = stored_shape a.room a.text.now _ _ _ _ c.fill-s.ensures x.1 (shape_there a.room a.text.now a.close a.table.now a.r x.0 x.1 x.2 c.then_at-g.result c.then_at-g.ensures _ c.in-Item.is) in
    omega (arith, st.counted, x.2.after.low)

pub slice_bounds-put_sub_shape-end : goal.slice_bounds-put_sub_shape-end
slice_bounds-put_sub_shape-end c =
    let a = c.args in
    let x = c.requires in
    let st = stored_shape a.room a.text.now _ _ _ _ c.fill-s.ensures x.1 (shape_there a.room a.text.now a.close a.table.now a.r x.0 x.1 x.2 c.then_at-g.result c.then_at-g.ensures _ c.in-Item.is) in
    st.counted ∙ sym (ap length (shape_front x.1 _ _ _ _ _ st x.2.after.low refl))

pub overflow_add-result : goal.overflow_add-result
overflow_add-result c =
    let a = c.args in
    let x = c.requires in
    let st = stored_shape a.room a.text.now _ _ _ _ c.fill-s.ensures x.1 (shape_there a.room a.text.now a.close a.table.now a.r x.0 x.1 x.2 c.then_at-g.result c.then_at-g.ensures _ c.in-Item.is) in
    omega (arith, st.counted, x.2.room, c.well_formed.1.1.1.1.0.0)

pub returns : goal.returns
returns c =
    let a = c.args in
    λ e ns h.
    let st = stored_shape a.room a.text.now _ _ _ _ c.fill-s.ensures ns (shape_there a.room a.text.now a.close a.table.now a.r e ns h c.then_at-g.result c.then_at-g.ensures _ c.in-Item.is) in
    shaped_some a.room a.text.now a.close a.table.now a.r e ns h c.then_at-g.result c.then_at-g.ensures _ c.in-Item.is a.entry a.up a.name c.fill-s.result.rank c.place_of-2.result c.place_of-3.result c.put_sub_shape-size.result _ _ st.counted
    (shape_front ns _ _ _ _ _ st h.after.low refl) (c.place_of-2.ensures ∙ ap gap_place st.stopped) (c.place_of-3.ensures ∙ ap gap_place c.then_at.ensures) c.put_sub_shape-size.ensures.value c.put_sub_shape-size.ensures.table_after
