-- By the first byte: no bracket of a shape, one too many, a list or a tuple.
use native.Mathlib.Omega.{arith}
use mathlib.Core.Path.{◌≡◌, sym, ap, ◌∙◌}
use mathlib.Core.Bool.{true, false}
use borrow.Author.Tests.{not-true, not-false}
use Rattle.literal_bytes.specs.Text.{byte_at}
use Rattle.literal_bytes.proofs.Positions.{open_in}
use Rattle.shape_text.proofs.Held.{nothing_rank}
use Rattle.shape_text.proofs.Walking.{is_shape, no_shape, shape_round, shape_open, judged_other, judged_deep, judged_square, judged_round}
use Rattle.shape_text.proofs.judge.Goals as goal

pub returns-then-not-b : goal.returns-then-not-b
returns-then-not-b c =
    let a = c.args in
    let s = a.text.now in
    let z : is_shape (byte_at s a.at) ≡ false = ap is_shape (sym c.peek-b.ensures) ∙ not-true _ c.if-not-b.true-raw in
    let o = no_shape (byte_at s a.at) z in
    judged_other a.room s a.at c.value.result c.value.ensures o.0 o.1

pub returns-then-room-eq0 : goal.returns-then-room-eq0
returns-then-room-eq0 c =
    let a = c.args in
    let s = a.text.now in
    let z : is_shape (byte_at s a.at) ≡ true = ap is_shape (sym c.peek-b.ensures) ∙ not-false _ c.if-not-b.false-raw in
    judged_deep a.room s a.at c.if-room-eq0.true (shape_open (byte_at s a.at) z)

pub overflow_add-at : goal.overflow_add-at
overflow_add-at c =
    let a = c.args in
    let s = a.text.now in
    let z : is_shape (byte_at s a.at) ≡ true = ap is_shape (sym c.peek-b.ensures) ∙ not-false _ c.if-not-b.false-raw in
    omega (arith, open_in s a.at (shape_open (byte_at s a.at) z))

pub members-requires : goal.members-requires
members-requires c = omega (arith, nothing_rank c.nothing.result c.nothing.ensures)

pub returns-then-b-eq-SQUARE : goal.returns-then-b-eq-SQUARE
returns-then-b-eq-SQUARE c =
    let a = c.args in
    judged_square a.text.now a.at a.room c.if-room-eq0.false (sym c.peek-b.ensures ∙ c.if-b-eq-SQUARE.true) c.nothing.result c.nothing.ensures c.members.result c.members.ensures

pub overflow_add-at-2 : goal.overflow_add-at-2
overflow_add-at-2 c =
    let a = c.args in
    let s = a.text.now in
    let z : is_shape (byte_at s a.at) ≡ true = ap is_shape (sym c.peek-b.ensures) ∙ not-false _ c.if-not-b.false-raw in
    omega (arith, open_in s a.at (shape_open (byte_at s a.at) z))

pub returns : goal.returns
returns c =
    let a = c.args in
    let s = a.text.now in
    let z : is_shape (byte_at s a.at) ≡ true = ap is_shape (sym c.peek-b.ensures) ∙ not-false _ c.if-not-b.false-raw in
    let no_square : byte_at s a.at ≡ 91 → ⊥ = λ e. c.if-b-eq-SQUARE.false (c.peek-b.ensures ∙ e) in
    judged_round s a.at a.room c.if-room-eq0.false no_square (shape_round (byte_at s a.at) z no_square) c.tuple.result c.tuple.ensures
