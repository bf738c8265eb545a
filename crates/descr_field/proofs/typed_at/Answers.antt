-- Where there is an escape, or the text has ended, the answer is 15 either way; where neither is so, the part of the text is the string.
use native.Mathlib.Omega.{arith}
use mathlib.Core.Path.{ap, ◌∙◌}
use Rattle.type_str.specs.TypeString.{type_string}
use Rattle.literal_escapes.specs.declared.Scan.{Scan}
use Rattle.descr_field.proofs.Escapes.{escaped_says, raw_inside, raw_says}
use Rattle.descr_field.proofs.typed_at.Goals as goal

pub returns-then-s-text : goal.returns-then-s-text
returns-then-s-text c =
    let a = c.args in
    let r = c.scan_at-s in
    record { ended_value = ap (λ (x : Scan). x.ended) r.ensures; read_value = escaped_says a.quote a.text.now a.from r.result r.ensures c.if-s-text.true }

pub overflow_add-to : goal.overflow_add-to
overflow_add-to c =
    let a = c.args in
    let r = c.scan_at-s in
    let i = raw_inside a.quote a.text.now a.from r.result r.ensures c.if-s-text.false in
    omega arith

pub slice_bounds-parse-end : goal.slice_bounds-parse-end
slice_bounds-parse-end c =
    let a = c.args in
    let r = c.scan_at-s in
    raw_inside a.quote a.text.now a.from r.result r.ensures c.if-s-text.false

pub returns : goal.returns
returns c =
    let a = c.args in
    let r = c.scan_at-s in
    record { ended_value = ap (λ (x : Scan). x.ended) r.ensures; read_value = c.parse.ensures ∙ ap type_string (raw_says a.quote a.text.now a.from r.result r.ensures c.if-s-text.false) }
