-- The byte decides, as in the definition: whether it is the quote, and then its class.
use Prim.Native.Nat.{◌<◌}
use mathlib.Core.Path.{sym}
use native.Mathlib.Omega.{arith}
use lib.ListN.{get_or}
use borrow.Author.Tests.{lt-ltb, le-ltb, eq-eqb, ne_eqb}
use Rattle.literal_escapes.specs.Strings.{piece_at}
use Rattle.literal_bytes.proofs.Positions.{get_d_any}
use Rattle.literal_escapes.proofs.ByClass.{of_backslash, of_blank, of_another}
use Rattle.literal_escapes.proofs.piece_at.Goals as goal

pub returns-then-text-at : goal.returns-then-text-at
unfolding piece_at
returns-then-text-at c = simp (piece_at, le-ltb _ _ c.if-text-at.true)

pub returns-then-b-quote : goal.returns-then-b-quote
unfolding piece_at
returns-then-b-quote c =
    let a = c.args in
    let lt = c.if-text-at.false in
    simp (piece_at, lt-ltb _ _ lt, sym (get_d_any a.text.now a.at 0 256 lt), eq-eqb _ _ c.if-b-quote.true)

pub returns-in-8 : goal.returns-in-8
unfolding piece_at
returns-in-8 c =
    let a = c.args in
    let lt = c.if-text-at.false in
    let fits : get_or a.text.now a.at 0 < 256 = omega (arith, c.shared_slice_known-2-1.given a.at) in
    let known = of_backslash (get_or a.text.now a.at 0) _ fits c.class_of.ensures c.in-8.is in
    simp (piece_at, lt-ltb _ _ lt, sym (get_d_any a.text.now a.at 0 256 lt), ne_eqb _ _ c.if-b-quote.false, known.0, known.1) c.escape_at.ensures

pub returns-then-is_break : goal.returns-then-is_break
unfolding piece_at
returns-then-is_break c =
    let a = c.args in
    let lt = c.if-text-at.false in
    simp (piece_at, lt-ltb _ _ lt, sym (get_d_any a.text.now a.at 0 256 lt), ne_eqb _ _ c.if-b-quote.false, sym c.is_break.ensures, c.if-is_break.true)

pub returns-else-is_break : goal.returns-else-is_break
unfolding piece_at
returns-else-is_break c =
    let a = c.args in
    let lt = c.if-text-at.false in
    let fits : get_or a.text.now a.at 0 < 256 = omega (arith, c.shared_slice_known-2-1.given a.at) in
    let known = of_blank (get_or a.text.now a.at 0) _ fits c.class_of.ensures c.in-0.is in
    simp (piece_at, lt-ltb _ _ lt, sym (get_d_any a.text.now a.at 0 256 lt), ne_eqb _ _ c.if-b-quote.false, sym c.is_break.ensures, c.if-is_break.false, known)

pub returns-in_default : goal.returns-in_default
unfolding piece_at
returns-in_default c =
    let a = c.args in
    let lt = c.if-text-at.false in
    let fits : get_or a.text.now a.at 0 < 256 = omega (arith, c.shared_slice_known-2-1.given a.at) in
    let known = of_another (get_or a.text.now a.at 0) _ fits c.class_of.ensures c.in_default.in_default-own.rest.0.1 c.in_default.in_default-own.rest.1 in
    simp (piece_at, lt-ltb _ _ lt, sym (get_d_any a.text.now a.at 0 256 lt), ne_eqb _ _ c.if-b-quote.false, known.0, known.1)
