-- A string that is a descr is a type string: one entry, and no names.
use native.Mathlib.Omega.{arith}
use Rattle.header.proofs.Filling.{text_in, text_whole}
use Rattle.header.proofs.fill.fill_plain.Goals as goal

pub overflow_add-at : goal.overflow_add-at
overflow_add-at c =
    let a = c.args in
    let x = c.requires in
    let y = x.due_plain_at.2 in
    omega (arith, text_in x.due_plain_at.0 a.text.now a.at a.entry a.up a.name a.byte a.table.now x.due_plain_at.1 y.0 y.1 y.2 y.3 x.at_value)

pub bounds-text-at : goal.bounds-text-at
bounds-text-at c =
    let a = c.args in
    let x = c.requires in
    let y = x.due_plain_at.2 in
    omega (arith, text_in x.due_plain_at.0 a.text.now a.at a.entry a.up a.name a.byte a.table.now x.due_plain_at.1 y.0 y.1 y.2 y.3 x.at_value)

pub returns : goal.returns
returns c =
    let a = c.args in
    λ k names n e d h.
    text_whole k a.text.now a.at a.entry a.up a.name a.byte a.table.now names n e d h c.requires.at_value c.typed_at-t.result (c.typed_at-t.ensures.ended_value, c.typed_at-t.ensures.read_value) c.type_in.result c.type_in.ensures c.end_place.result c.end_place.ensures c.put_plain-size.result c.put_plain-size.ensures.value _ c.put_plain-size.ensures.table_after
