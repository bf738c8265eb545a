use native.Mathlib.Omega.{arith}
use Rattle.emit.proofs.Pieces.{emits_length}
use Rattle.write_depth.proofs.Listing.{under_innermost, under_record}
use Rattle.write_text.proofs.Walking.{plain_walked, record_walked, under_room, under_walked, under_asks, going_next, going_more, going_end}
use Rattle.write_text.proofs.inner.+put_descr_put_fields.Goals as goal

pub put_descr-overflow_add-result : goal.put_descr-overflow_add-result
put_descr-overflow_add-result t c = let x = c.requires in omega (arith, (under_room _ _ _ _ _ (under_innermost _ _ _ c.innermost-under.ensures) x.0 x.1).1)

pub put_descr-shape_of-out-then-entry-eq-PLAIN : goal.put_descr-shape_of-out-then-entry-eq-PLAIN
put_descr-shape_of-out-then-entry-eq-PLAIN t c = let x = c.requires in emits_length _ _ _ _ _ (under_walked _ _ _ _ _ (under_innermost _ _ _ c.innermost-under.ensures) _ _ _ _ (plain_walked _ _ _ _ _ c.entry_at-entry.ensures c.if-entry-eq-PLAIN.true _ _ _ _ c.put_type-after_type.ensures) x.0 x.1).emits

pub put_descr-returns-then-entry-eq-PLAIN : goal.put_descr-returns-then-entry-eq-PLAIN
put_descr-returns-then-entry-eq-PLAIN t c = under_walked _ _ _ _ _ (under_innermost _ _ _ c.innermost-under.ensures) _ _ _ _ (plain_walked _ _ _ _ _ c.entry_at-entry.ensures c.if-entry-eq-PLAIN.true _ _ _ _ c.put_type-after_type.ensures)

pub put_descr-overflow_add-under : goal.put_descr-overflow_add-under
put_descr-overflow_add-under t c = let x = c.requires in omega (arith, (under_room _ _ _ _ _ (under_innermost _ _ _ c.innermost-under.ensures) x.0 x.1).1)

pub put_descr-put_fields-last-requires : goal.put_descr-put_fields-last-requires
put_descr-put_fields-last-requires t c =
    let x = c.requires in
    let under = under_innermost _ _ _ c.innermost-under.ensures in
    let r = under_room _ _ _ _ _ under x.0 x.1 in
    (omega (arith, r.0, r.1), under_asks _ _ _ _ _ under _ c.entry_at-entry.ensures c.if-entry-eq-PLAIN.false x)

pub put_descr-shape_of-out : goal.put_descr-shape_of-out
put_descr-shape_of-out t c =
    let x = c.requires in
    let under = under_innermost _ _ _ c.innermost-under.ensures in
    let entry = c.entry_at-entry.ensures in
    emits_length _ _ _ _ _ (under_walked _ _ _ _ _ under _ _ _ _ (record_walked _ _ _ _ _ entry c.if-entry-eq-PLAIN.false (under_record _ _ _ under _ entry x.0 x.1.listed) _ _ _ _ _ _ _ _ c.put-inside.ensures c.put_fields-last.ensures c.put-after_bracket.ensures) x.0 x.1).emits

pub put_descr-returns : goal.put_descr-returns
put_descr-returns t c =
    let x = c.requires in
    let under = under_innermost _ _ _ c.innermost-under.ensures in
    let entry = c.entry_at-entry.ensures in
    under_walked _ _ _ _ _ under _ _ _ _ (record_walked _ _ _ _ _ entry c.if-entry-eq-PLAIN.false (under_record _ _ _ under _ entry x.0 x.1.listed) _ _ _ _ _ _ _ _ c.put-inside.ensures c.put_fields-last.ensures c.put-after_bracket.ensures)

pub put_fields-overflow_add-end : goal.put_fields-overflow_add-end
put_fields-overflow_add-end t c =
    let x = c.requires in
    let l = c.loop in
    let y = going_next _ _ l.c l.start _ c.entry_at-field.ensures _ _ _ _ _ l.p l.counter x.0 (l.invariant x.0 x.1 x.2) (omega (arith, x.1)) in
    omega (arith, y.2.fits)

pub put_fields-slice_bounds-open_field-end : goal.put_fields-slice_bounds-open_field-end
put_fields-slice_bounds-open_field-end t c =
    let x = c.requires in
    let l = c.loop in
    let y = going_next _ _ l.c l.start _ c.entry_at-field.ensures _ _ _ _ _ l.p l.counter x.0 (l.invariant x.0 x.1 x.2) (omega (arith, x.1)) in
    omega (arith, y.2.fits)

pub put_fields-put_descr-inner-requires : goal.put_fields-put_descr-inner-requires
put_fields-put_descr-inner-requires t c =
    let x = c.requires in
    let l = c.loop in
    let g = l.invariant x.0 x.1 x.2 in
    let y = going_next _ _ l.c l.start _ c.entry_at-field.ensures _ _ _ _ _ l.p l.counter x.0 g (omega (arith, x.1)) in
    (omega (arith, g.further), (y.1, y.2.inner))

pub put_fields-loop-preserved : goal.put_fields-loop-preserved
put_fields-loop-preserved t c = λ fs n s.
    let l = c.loop in
    going_more _ _ l.c l.start _ c.entry_at-field.ensures _ _ _ _ _ l.p l.counter fs (l.invariant fs n s) (omega arith) _ _ _ _ _ _ c.open_field-opened.ensures c.put_descr-inner.ensures c.close_field-p.ensures

pub put_fields-shape_of-out : goal.put_fields-shape_of-out
put_fields-shape_of-out t c = let x = c.requires in (c.loop.invariant x.0 x.1 x.2).same

pub put_fields-returns : goal.put_fields-returns
put_fields-returns t c = λ fs n s. let l = c.loop in going_end _ _ _ _ _ _ _ l.c l.start l.p l.counter fs (l.invariant fs n s) (omega arith)
