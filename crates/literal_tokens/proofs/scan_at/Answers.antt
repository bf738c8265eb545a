-- A run that ends at the quote is the whole string.
use native.Mathlib.Omega.{arith}
use Rattle.literal_escapes.proofs.Plain.{plain_from, plain_before, plain_scan}
use Rattle.literal_tokens.proofs.scan_at.Goals as goal

pub overflow_add-result : goal.overflow_add-result
overflow_add-result c =
    let a = c.args in
    omega (arith, plain_before a.quote a.text.now a.from c.plain_any-to.result c.plain_any-to.ensures _ c.byte_is.ensures c.if-byte_is.true)

pub overflow_sub-result : goal.overflow_sub-result
overflow_sub-result c =
    let a = c.args in
    omega (arith, plain_from a.quote a.text.now a.from c.plain_any-to.result c.plain_any-to.ensures)

pub returns-then-byte_is : goal.returns-then-byte_is
returns-then-byte_is c =
    let a = c.args in
    plain_scan a.quote a.text.now a.from c.plain_any-to.result c.plain_any-to.ensures _ c.byte_is.ensures c.if-byte_is.true
