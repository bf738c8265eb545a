-- A run that ends at the quote is the whole string, and its bytes are stored as they are.
use mathlib.Core.Path.{sym, ap, ◌∙◌}
use native.Mathlib.Omega.{arith}
use lib.Seq.{sets}
use Rattle.literal_escapes.specs.Strings.{Spelled}
use Rattle.literal_escapes.proofs.Plain.{plain_from, plain_before, plain_string, plain_scan}
use Rattle.literal_decode.proofs.decode.Goals as goal

pub slice_bounds-put_run-count : goal.slice_bounds-put_run-count
slice_bounds-put_run-count c =
    let a = c.args in
    omega (arith, plain_from a.quote a.text.now a.from c.plain_any-to.result c.plain_any-to.ensures)

pub slice_bounds-put_run-start : goal.slice_bounds-put_run-start
slice_bounds-put_run-start c =
    let a = c.args in
    let lt = plain_before a.quote a.text.now a.from c.plain_any-to.result c.plain_any-to.ensures _ c.byte_is.ensures c.if-byte_is.true in
    omega (arith, lt, plain_from a.quote a.text.now a.from c.plain_any-to.result c.plain_any-to.ensures)

pub slice_bounds-put_run-end : goal.slice_bounds-put_run-end
slice_bounds-put_run-end c =
    let a = c.args in
    let lt = plain_before a.quote a.text.now a.from c.plain_any-to.result c.plain_any-to.ensures _ c.byte_is.ensures c.if-byte_is.true in
    omega (arith, lt, plain_from a.quote a.text.now a.from c.plain_any-to.result c.plain_any-to.ensures)

pub overflow_add-result : goal.overflow_add-result
overflow_add-result c =
    let a = c.args in
    let lt = plain_before a.quote a.text.now a.from c.plain_any-to.result c.plain_any-to.ensures _ c.byte_is.ensures c.if-byte_is.true in
    omega (arith, lt)

pub overflow_sub-result : goal.overflow_sub-result
overflow_sub-result c =
    let a = c.args in
    omega (arith, plain_from a.quote a.text.now a.from c.plain_any-to.result c.plain_any-to.ensures)

pub returns-then-byte_is : goal.returns-then-byte_is
returns-then-byte_is c =
    let a = c.args in
    let h = c.plain_any-to.ensures in
    let to = c.plain_any-to.result in
    record { value = plain_scan a.quote a.text.now a.from to h _ c.byte_is.ensures c.if-byte_is.true; out_after = c.put_run.ensures ∙ sym (ap (λ (r : Spelled). sets a.out.now 0 r.bytes) (plain_string a.quote a.text.now a.from to h _ c.byte_is.ensures c.if-byte_is.true)) }
