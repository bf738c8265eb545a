use Rattle.refusal.specs.Answers.{answer}
use Prim.Native.Nat.{◌+◌, ◌-◌}
use borrow.Enum.Refused.{opened}
use native.Mathlib.Omega.{arith}
use mathlib.Core.Path.{refl, sym, ap, ◌∙◌}
use lib.Dec.{lit<}
use Rattle.literal.specs.Literal.{value as value_of}
use Rattle.literal.proofs.Ends.{value_ahead}
use Rattle.literal_bytes.proofs.Ends.{stops}
use Rattle.literal.proofs.Steps.{turn_less as literal_less}
use Rattle.descr_field.proofs.Begins.{string_in}
use Rattle.descr.proofs.Adds.{field_by, descr_by}
use Rattle.descr.proofs.Along.{turn_start, turn_stop, turn_more, turn_end}
use Rattle.descr.proofs.Nodes.{type_judged, descr_no_form, field_no_form, bracket_in, bracket_small, too_deep_lem, field_judged, record_judged}
use Rattle.descr.proofs.Items.{items_empty, items_unread, items_alone, items_broken, items_whole}
use Rattle.descr.proofs.inner.+field_fields_inner_at_judge.Goals as goal

pub field-returns-then-close-eq0 : goal.field-returns-then-close-eq0
field-returns-then-close-eq0 t c =
    let a = c.args in
    field_no_form a.room a.text.now a.at c.wrong_form.result (c.wrong_form.ensures.ended_value ∙ c.value.ensures) (ap answer c.wrong_form.ensures.verdict_value) (sym c.closing_at-close.ensures ∙ c.if-close-eq0.true)

pub field-returns-then-room-eq0 : goal.field-returns-then-room-eq0
field-returns-then-room-eq0 t c =
    let a = c.args in
    too_deep_lem a.room a.text.now a.at c.closing_at-close.result c.closing_at-close.ensures c.if-close-eq0.false field_by c.wrong_form-then-room-eq0.result c.if-room-eq0.true c.wrong_form-then-room-eq0.ensures.ended_value

pub field-overflow_add-at : goal.field-overflow_add-at
field-overflow_add-at t c =
    let a = c.args in
    let lt = bracket_in a.room a.text.now a.at c.closing_at-close.result c.closing_at-close.ensures c.if-close-eq0.false in
    omega arith

pub field-returns-in_default : goal.field-returns-in_default
field-returns-in_default t c =
    let a = c.args in
    let b = c.closing_at-close in
    field_judged a.room a.text.now a.at b.result b.ensures c.if-close-eq0.false c.if-room-eq0.false _
    (items_empty (a.room - 1) a.text.now (a.at + 1) b.result c.gap_at-g1.result c.gap_at-g1.ensures c.wrong_form-in_default.result (opened c.in_default.in_default-own.keys2) (c.wrong_form-in_default.ensures.ended_value ∙ c.ended.ensures) (ap answer c.wrong_form-in_default.ensures.verdict_value))

pub field-returns-in_default-e1 : goal.field-returns-in_default-e1
field-returns-in_default-e1 t c =
    let a = c.args in
    let b = c.closing_at-close in
    field_judged a.room a.text.now a.at b.result b.ensures c.if-close-eq0.false c.if-room-eq0.false _
    (items_unread (a.room - 1) a.text.now (a.at + 1) b.result c.gap_at-g1.result c.gap_at-g1.ensures _ c.in-Item.is c.name_at-name.result (c.name_at-name.ensures.ended_value, c.name_at-name.ensures.verdict_value) c.wrong_form-in_default-e1.result (stops c.name_at-name.result.ended (opened c.in_default-e1.in_default-e1-own.keys2)) c.wrong_form-in_default-e1.ensures.ended_value)

pub field-returns-in_default-g2 : goal.field-returns-in_default-g2
field-returns-in_default-g2 t c =
    let a = c.args in
    let b = c.closing_at-close in
    field_judged a.room a.text.now a.at b.result b.ensures c.if-close-eq0.false c.if-room-eq0.false _
    (items_alone (a.room - 1) a.text.now (a.at + 1) b.result c.gap_at-g1.result c.gap_at-g1.ensures _ c.in-Item.is c.name_at-name.result (c.name_at-name.ensures.ended_value, c.name_at-name.ensures.verdict_value) (bracket_small a.room a.text.now a.at b.result b.ensures c.if-close-eq0.false) _ c.in-Value.is c.second_at-g2.result c.second_at-g2.ensures c.wrong_form-in_default-g2.result (opened c.in_default-g2.in_default-g2-own.keys2) (c.wrong_form-in_default-g2.ensures.ended_value ∙ c.ended-in_default-g2.ensures) (ap answer c.wrong_form-in_default-g2.ensures.verdict_value))

pub field-inner_at-inner-requires : goal.field-inner_at-inner-requires
field-inner_at-inner-requires t c = omega arith

pub field-returns-in_default-e2 : goal.field-returns-in_default-e2
field-returns-in_default-e2 t c =
    let a = c.args in
    let b = c.closing_at-close in
    field_judged a.room a.text.now a.at b.result b.ensures c.if-close-eq0.false c.if-room-eq0.false _
    (items_broken (a.room - 1) a.text.now (a.at + 1) b.result c.gap_at-g1.result c.gap_at-g1.ensures _ c.in-Item.is c.name_at-name.result (c.name_at-name.ensures.ended_value, c.name_at-name.ensures.verdict_value) (bracket_small a.room a.text.now a.at b.result b.ensures c.if-close-eq0.false) _ c.in-Value.is c.second_at-g2.result c.second_at-g2.ensures _ c.in-Item-g2.is c.inner_at-inner.result c.inner_at-inner.ensures c.wrong_form-in_default-e2.result (stops c.inner_at-inner.result.ended (opened c.in_default-e2.in_default-e2-own.keys2)) c.wrong_form-in_default-e2.ensures.ended_value)

pub field-returns : goal.field-returns
field-returns t c =
    let a = c.args in
    let b = c.closing_at-close in
    field_judged a.room a.text.now a.at b.result b.ensures c.if-close-eq0.false c.if-room-eq0.false _
    (items_whole (a.room - 1) a.text.now (a.at + 1) b.result c.gap_at-g1.result c.gap_at-g1.ensures _ c.in-Item.is c.name_at-name.result (c.name_at-name.ensures.ended_value, c.name_at-name.ensures.verdict_value) (bracket_small a.room a.text.now a.at b.result b.ensures c.if-close-eq0.false) _ c.in-Value.is c.second_at-g2.result c.second_at-g2.ensures _ c.in-Item-g2.is c.inner_at-inner.result c.inner_at-inner.ensures _ c.in-Value-e2.is c.then_at-g3.result c.then_at-g3.ensures c.sub_shape.result (c.sub_shape.ensures.ended_value, c.sub_shape.ensures.verdict_value))

pub fields-loop-g-init : goal.fields-loop-g-init
fields-loop-g-init t c = turn_start c.args.room c.args.text.now c.args.from c.gap_at-g.result _ c.gap_at-g.ensures refl

pub fields-returns-in_default : goal.fields-returns-in_default
fields-returns-in_default t c =
    let a = c.args in
    let l = c.loop-g in
    turn_end a.room a.text.now a.from l.g l.verdict _ l.invariant (opened c.in_default.in_default-own.keys2) c.ended.ensures refl

pub fields-field-r-requires : goal.fields-field-r-requires
fields-field-r-requires t c = omega arith

pub fields-returns-in_default-end : goal.fields-returns-in_default-end
fields-returns-in_default-end t c =
    let a = c.args in
    let l = c.loop-g in
    turn_stop a.room a.text.now a.from l.g l.verdict _ l.invariant c.in-Item.is c.field-r.result c.field-r.ensures c.wrong_form.result (stops c.field-r.result.ended (opened c.in_default-end.in_default-end-own.keys2)) c.wrong_form.ensures.ended_value

pub fields-loop-g-smaller : goal.fields-loop-g-smaller
fields-loop-g-smaller t c =
    let a = c.args in
    literal_less (value_of a.room a.text.now) a.text.now 93 a.from (value_ahead a.room a.text.now) (lit< tt) c.loop-g.g c.then_at-g.result _ _ c.field-r.result.ended c.in-Item.is c.in-Value.is c.field-r.ensures.ends c.then_at-g.ensures

pub fields-loop-g-preserved : goal.fields-loop-g-preserved
fields-loop-g-preserved t c =
    let a = c.args in
    let l = c.loop-g in
    turn_more a.room a.text.now a.from l.g l.verdict _ l.invariant c.in-Item.is c.field-r.result c.field-r.ensures c.then_at-g.result c.join-verdict.result _ c.in-Value.is c.then_at-g.ensures c.join-verdict.ensures

pub inner_at-plain_at-requires : goal.inner_at-plain_at-requires
inner_at-plain_at-requires t c = string_in c.args.text.now c.args.at (sym c.string_at.ensures ∙ c.if-string_at.true)

pub inner_at-returns-then-string_at : goal.inner_at-returns-then-string_at
inner_at-returns-then-string_at t c =
    let a = c.args in
    type_judged a.room a.text.now a.at c.plain_at.result (sym c.string_at.ensures ∙ c.if-string_at.true) c.plain_at.ensures.ended_value c.plain_at.ensures.verdict_value

pub inner_at-judge-requires : goal.inner_at-judge-requires
inner_at-judge-requires t c = omega arith

pub inner_at-returns : goal.inner_at-returns
inner_at-returns t c = c.judge.ensures

pub judge-plain_at-requires : goal.judge-plain_at-requires
judge-plain_at-requires t c = string_in c.args.text.now c.args.at (sym c.string_at.ensures ∙ c.if-string_at.true)

pub judge-returns-then-string_at : goal.judge-returns-then-string_at
judge-returns-then-string_at t c =
    let a = c.args in
    type_judged a.room a.text.now a.at c.plain_at.result (sym c.string_at.ensures ∙ c.if-string_at.true) c.plain_at.ensures.ended_value c.plain_at.ensures.verdict_value

pub judge-returns-then-closing_at-ne93 : goal.judge-returns-then-closing_at-ne93
judge-returns-then-closing_at-ne93 t c =
    let a = c.args in
    descr_no_form a.room a.text.now a.at c.wrong_form.result (c.wrong_form.ensures.ended_value ∙ c.value.ensures) (ap answer c.wrong_form.ensures.verdict_value) (sym c.string_at.ensures ∙ c.if-string_at.false) (λ z. c.if-closing_at-ne93.true (c.closing_at.ensures ∙ z))

pub judge-returns-then-room-eq0 : goal.judge-returns-then-room-eq0
judge-returns-then-room-eq0 t c =
    let a = c.args in
    too_deep_lem a.room a.text.now a.at c.closing_at.result c.closing_at.ensures (λ z. absurd (omega (arith, c.if-closing_at-ne93.false))) descr_by c.wrong_form-then-room-eq0.result c.if-room-eq0.true c.wrong_form-then-room-eq0.ensures.ended_value

pub judge-overflow_add-at : goal.judge-overflow_add-at
judge-overflow_add-at t c =
    let a = c.args in
    let lt = bracket_in a.room a.text.now a.at c.closing_at.result c.closing_at.ensures (λ z. absurd (omega (arith, c.if-closing_at-ne93.false))) in
    omega arith

pub judge-fields-r-requires : goal.judge-fields-r-requires
judge-fields-r-requires t c = omega arith

pub judge-returns : goal.judge-returns
judge-returns t c =
    let a = c.args in
    record_judged a.room a.text.now a.at c.closing_at.result c.closing_at.ensures (λ z. absurd (omega (arith, c.if-closing_at-ne93.false))) c.if-room-eq0.false c.if-closing_at-ne93.false c.fields-r.result _ c.fields-r.ensures refl c.join.ensures
