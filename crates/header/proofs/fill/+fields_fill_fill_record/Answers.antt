use native.Mathlib.Omega.{arith}
use borrow.Enum.Refused.{opened}
use mathlib.Core.Path.{sym, ◌∙◌}
use Rattle.dtype.proofs.Flat.{some_entry_lem}
use Rattle.header.proofs.Filling.{fields_asked, record_whole, filling_start, filling_field, filling_less, filling_more, filling_end, field_deep, head_due, inner_due, shape_due, field_whole, filled_long}
use Rattle.header.proofs.fill.+fields_fill_fill_record.Goals as goal

pub fields-loop-g-init : goal.fields-loop-g-init
fields-loop-g-init t c =
    let a = c.args in
    filling_start a.room a.text.now a.from a.entry a.up a.byte a.table.now a.names.now c.gap_at-g.result c.gap_at-g.ensures

pub fields-shape_of-table-in_default : goal.fields-shape_of-table-in_default
fields-shape_of-table-in_default t c = c.loop-g.invariant.long

pub fields-shape_of-names-in_default : goal.fields-shape_of-names-in_default
fields-shape_of-names-in_default t c = c.loop-g.invariant.long_names

pub fields-returns-in_default : goal.fields-returns-in_default
fields-returns-in_default t c =
    let a = c.args in
    let l = c.loop-g in
    filling_end a.room a.text.now a.from a.entry a.up a.byte a.table.now a.names.now l.g l.at l.b l.count l.size l.table l.names l.invariant (opened c.in_default.in_default-own.keys2) c.place_of.result c.place_of.ensures

pub fields-head_at-h-requires : goal.fields-head_at-h-requires
fields-head_at-h-requires t c =
    let a = c.args in
    let l = c.loop-g in
    let x = c.requires in
    let f = filling_field a.room a.text.now a.from a.entry a.up a.byte a.table.now a.names.now l.g l.at l.b l.count l.size l.table l.names l.invariant _ c.in-Item.is x.0 x.1 x.2 x.3 in
    head_due a.room a.text.now _ l.at a.up l.b l.table l.names c.closing_at-close.result c.closing_at-close.ensures f.0 f.1 f.2 f.3

pub fields-overflow_sub-room : goal.fields-overflow_sub-room
fields-overflow_sub-room t c =
    let a = c.args in
    let l = c.loop-g in
    let x = c.requires in
    let f = filling_field a.room a.text.now a.from a.entry a.up a.byte a.table.now a.names.now l.g l.at l.b l.count l.size l.table l.names l.invariant _ c.in-Item.is x.0 x.1 x.2 x.3 in
    omega (arith, field_deep a.room a.text.now _ l.at a.up l.b l.table l.names c.closing_at-close.result c.closing_at-close.ensures f.0 f.1 f.2 f.3)

pub fields-fill-q-requires : goal.fields-fill-q-requires
fields-fill-q-requires t c =
    let a = c.args in
    let l = c.loop-g in
    let x = c.requires in
    let f = filling_field a.room a.text.now a.from a.entry a.up a.byte a.table.now a.names.now l.g l.at l.b l.count l.size l.table l.names l.invariant _ c.in-Item.is x.0 x.1 x.2 x.3 in
    (omega (arith, field_deep a.room a.text.now _ l.at a.up l.b l.table l.names c.closing_at-close.result c.closing_at-close.ensures f.0 f.1 f.2 f.3), inner_due a.room a.text.now _ l.at a.up l.b l.table l.names c.closing_at-close.result c.closing_at-close.ensures f.0 f.1 f.2 f.3 c.head_at-h.result _ c.head_at-h.ensures)

pub fields-overflow_sub-room-in-loop-g : goal.fields-overflow_sub-room-in-loop-g
fields-overflow_sub-room-in-loop-g t c =
    let a = c.args in
    let l = c.loop-g in
    let x = c.requires in
    let f = filling_field a.room a.text.now a.from a.entry a.up a.byte a.table.now a.names.now l.g l.at l.b l.count l.size l.table l.names l.invariant _ c.in-Item.is x.0 x.1 x.2 x.3 in
    omega (arith, field_deep a.room a.text.now _ l.at a.up l.b l.table l.names c.closing_at-close.result c.closing_at-close.ensures f.0 f.1 f.2 f.3)

pub fields-shaped-r-requires : goal.fields-shaped-r-requires
fields-shaped-r-requires t c =
    let a = c.args in
    let l = c.loop-g in
    let x = c.requires in
    let f = filling_field a.room a.text.now a.from a.entry a.up a.byte a.table.now a.names.now l.g l.at l.b l.count l.size l.table l.names l.invariant _ c.in-Item.is x.0 x.1 x.2 x.3 in
    shape_due a.room a.text.now _ l.at a.up l.b l.table l.names c.closing_at-close.result c.closing_at-close.ensures f.0 f.1 f.2 f.3 c.head_at-h.result _ c.head_at-h.ensures _ _ c.fill-q.result c.fill-q.ensures

pub fields-overflow_add-count : goal.fields-overflow_add-count
fields-overflow_add-count t c =
    let a = c.args in
    let l = c.loop-g in
    let x = c.requires in
    omega (arith, (l.invariant.goes x.0 x.1 x.2 x.3).adds, l.invariant.low, x.3.room, c.well_formed.1.1.1.0.0)

pub fields-loop-g-smaller : goal.fields-loop-g-smaller
fields-loop-g-smaller t c =
    let a = c.args in
    let l = c.loop-g in
    let x = c.requires in
    filling_less a.room a.text.now a.from a.entry a.up a.byte a.table.now a.names.now l.g l.at l.b l.count l.size l.table l.names l.invariant _ c.in-Item.is c.shaped-r.result c.then_at-g.result _ _ c.then_at-g.ensures
    (λ v q f h. field_whole a.room a.text.now _ l.at a.up l.b l.table l.names c.closing_at-close.result c.closing_at-close.ensures v q f h c.head_at-h.result _ c.head_at-h.ensures _ _ c.fill-q.result c.fill-q.ensures (omega (arith, l.invariant.long, c.well_formed.1.1.1.0.0)) _ c.shaped-r.result c.shaped-r.ensures) x.0 x.1 x.2 x.3

pub fields-loop-g-preserved : goal.fields-loop-g-preserved
fields-loop-g-preserved t c =
    let a = c.args in
    let l = c.loop-g in
    let x = c.requires in
    filling_more a.room a.text.now a.from a.entry a.up a.byte a.table.now a.names.now l.g l.at l.b l.count l.size l.table l.names l.invariant _ c.in-Item.is c.shaped-r.result c.then_at-g.result _ _ c.then_at-g.ensures
    (λ v q f h. field_whole a.room a.text.now _ l.at a.up l.b l.table l.names c.closing_at-close.result c.closing_at-close.ensures v q f h c.head_at-h.result _ c.head_at-h.ensures _ _ c.fill-q.result c.fill-q.ensures (omega (arith, l.invariant.long, c.well_formed.1.1.1.0.0)) _ c.shaped-r.result c.shaped-r.ensures) x.0 x.1 x.2 x.3 c.held_sum-size.result c.held_sum-size.ensures

pub fill-fill_plain-requires : goal.fill-fill_plain-requires
fill-fill_plain-requires t c =
    let a = c.args in
    record { at_value = sym c.string_at.ensures ∙ c.if-string_at.true; due_plain_at = (a.room, a.names.now, c.requires) }

pub fill-shape_of-table-then-string_at : goal.fill-shape_of-table-then-string_at
fill-shape_of-table-then-string_at t c =
    let a = c.args in
    let x = c.requires in
    (filled_long (c.fill_plain.ensures a.room a.names.now x.0 x.1 x.2 x.3)).0

pub fill-returns-then-string_at : goal.fill-returns-then-string_at
fill-returns-then-string_at t c = c.fill_plain.ensures c.args.room c.args.names.now

pub fill-fill_record-requires : goal.fill-fill_record-requires
fill-fill_record-requires t c = (omega arith, (sym c.string_at.ensures ∙ c.if-string_at.false, c.requires))

pub fill-shape_of-table : goal.fill-shape_of-table
fill-shape_of-table t c =
    let x = c.requires in
    (filled_long (c.fill_record.ensures x.0 x.1 x.2 x.3)).0

pub fill-shape_of-names : goal.fill-shape_of-names
fill-shape_of-names t c =
    let x = c.requires in
    (filled_long (c.fill_record.ensures x.0 x.1 x.2 x.3)).1

pub fill-returns : goal.fill-returns
fill-returns t c = c.fill_record.ensures

pub fill_record-overflow_add-at : goal.fill_record-overflow_add-at
fill_record-overflow_add-at t c =
    let a = c.args in
    let x = c.requires.due_at in
    omega (arith, (fields_asked a.room a.text.now a.at a.entry a.up a.name a.byte a.table.now a.names.now x.0 x.1 x.2 x.3 c.requires.at_value).0)

pub fill_record-overflow_sub-room : goal.fill_record-overflow_sub-room
fill_record-overflow_sub-room t c =
    let a = c.args in
    let x = c.requires.due_at in
    omega (arith, (fields_asked a.room a.text.now a.at a.entry a.up a.name a.byte a.table.now a.names.now x.0 x.1 x.2 x.3 c.requires.at_value).1)

pub fill_record-overflow_add-entry : goal.fill_record-overflow_add-entry
fill_record-overflow_add-entry t c =
    let x = c.requires.due_at in
    omega (arith, x.3.room, some_entry_lem x.2)

pub fill_record-fields-r-requires : goal.fill_record-fields-r-requires
fill_record-fields-r-requires t c =
    let a = c.args in
    let x = c.requires.due_at in
    let l = fields_asked a.room a.text.now a.at a.entry a.up a.name a.byte a.table.now a.names.now x.0 x.1 x.2 x.3 c.requires.at_value in
    (omega (arith, l.1), l.2)

pub fill_record-shape_of-table : goal.fill_record-shape_of-table
fill_record-shape_of-table t c =
    let a = c.args in
    let x = c.requires.due_at in
    (filled_long (record_whole a.room a.text.now a.at a.entry a.up a.name a.byte a.table.now a.names.now x.0 x.1 x.2 x.3 c.requires.at_value c.fields-r.result _ _ c.fields-r.ensures _ c.put_record.ensures)).0

pub fill_record-shape_of-names : goal.fill_record-shape_of-names
fill_record-shape_of-names t c =
    let a = c.args in
    let x = c.requires.due_at in
    (filled_long (record_whole a.room a.text.now a.at a.entry a.up a.name a.byte a.table.now a.names.now x.0 x.1 x.2 x.3 c.requires.at_value c.fields-r.result _ _ c.fields-r.ensures _ c.put_record.ensures)).1

pub fill_record-returns : goal.fill_record-returns
fill_record-returns t c =
    let a = c.args in
    λ n e d h. record_whole a.room a.text.now a.at a.entry a.up a.name a.byte a.table.now a.names.now n e d h c.requires.at_value c.fields-r.result _ _ c.fields-r.ensures _ c.put_record.ensures
