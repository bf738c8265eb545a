-- The first byte decides, as in the definition; a digit is in the text, and what crate decimal reads from there on is the run of digits.
use mathlib.Core.Path.{◌≡◌, sym, ap, ◌∙◌}
use mathlib.Core.Bool.{true}
use native.Mathlib.Omega.{arith}
use lib.Dec.{lit<}
use borrow.Author.Tests.{not-true, not-false}
use Rattle.decimal.specs.Decimal.{is_digit}
use Rattle.literal_bytes.specs.Text.{byte_at}
use Rattle.literal_bytes.proofs.Positions.{byte_in, digit_in}
use Rattle.literal_tokens.proofs.Numerals.{numeral_zero, numeral_fault, numeral_inside, numeral_digits}
use Rattle.literal_tokens.proofs.numeral_at.Goals as goal

pub overflow_add-result : goal.overflow_add-result
overflow_add-result c =
    let a = c.args in
    let lt = byte_in a.text.now a.at 48 (sym c.peek-b.ensures ∙ c.if-b-eq-ZERO.true) (lit< tt) in
    omega arith

pub returns-then-b-eq-ZERO : goal.returns-then-b-eq-ZERO
returns-then-b-eq-ZERO c = let a = c.args in numeral_zero a.text.now a.at (sym c.peek-b.ensures ∙ c.if-b-eq-ZERO.true)

pub returns-then-not-is_digit : goal.returns-then-not-is_digit
returns-then-not-is_digit c =
    let a = c.args in
    numeral_fault a.text.now a.at (λ e. c.if-b-eq-ZERO.false (c.peek-b.ensures ∙ e)) (sym (ap is_digit c.peek-b.ensures) ∙ sym c.is_digit.ensures ∙ not-true _ c.if-not-is_digit.true-raw)

pub slice_bounds-read-count : goal.slice_bounds-read-count
slice_bounds-read-count c =
    let a = c.args in
    let h : is_digit (byte_at a.text.now a.at) ≡ true = sym (ap is_digit c.peek-b.ensures) ∙ sym c.is_digit.ensures ∙ not-false _ c.if-not-is_digit.false-raw in
    let lt = digit_in a.text.now a.at h in
    omega arith

pub slice_bounds-read-start : goal.slice_bounds-read-start
slice_bounds-read-start c =
    let a = c.args in
    let h : is_digit (byte_at a.text.now a.at) ≡ true = sym (ap is_digit c.peek-b.ensures) ∙ sym c.is_digit.ensures ∙ not-false _ c.if-not-is_digit.false-raw in
    let lt = digit_in a.text.now a.at h in
    omega arith

pub overflow_add-result-2 : goal.overflow_add-result-2
overflow_add-result-2 c =
    let a = c.args in
    let h : is_digit (byte_at a.text.now a.at) ≡ true = sym (ap is_digit c.peek-b.ensures) ∙ sym c.is_digit.ensures ∙ not-false _ c.if-not-is_digit.false-raw in
    let z : byte_at a.text.now a.at ≡ 48 → ⊥ = λ e. c.if-b-eq-ZERO.false (c.peek-b.ensures ∙ e) in
    omega (arith, numeral_inside a.text.now a.at z h c.read-read.result c.read-read.ensures)

pub returns : goal.returns
returns c =
    let a = c.args in
    let h : is_digit (byte_at a.text.now a.at) ≡ true = sym (ap is_digit c.peek-b.ensures) ∙ sym c.is_digit.ensures ∙ not-false _ c.if-not-is_digit.false-raw in
    let z : byte_at a.text.now a.at ≡ 48 → ⊥ = λ e. c.if-b-eq-ZERO.false (c.peek-b.ensures ∙ e) in
    numeral_digits a.text.now a.at z h c.read-read.result c.read-read.ensures
