-- The first byte decides between an integer after its sign and a value that is no integer.
use Rattle.refusal.specs.Answers.{answer}
use Rattle.std.specs.Prelude.{Err}
use Prim.Native.Nat.{◌+◌}
use mathlib.Core.Path.{◌≡◌, refl, sym, ◌∙◌}
use native.Mathlib.Omega.{arith}
use lib.Dec.{lit<}
use Rattle.literal_bytes.specs.Text.{byte_at}
use Rattle.literal_bytes.specs.declared.ValueKind.TheVariants.{Minus}
use Rattle.literal_bytes.proofs.Positions.{byte_in}
use Rattle.refusal.specs.declared.Refusal.{Refusal}
use Rattle.shape_text.proofs.Numbers.{token_value, minus_kind, numeral_ends, numeral_number, dimension_minus, dimension_other, member_minus, member_none}
use Rattle.shape_text.proofs.other_at.Goals as goal

pub returns-then-peek-ne-MINUS : goal.returns-then-peek-ne-MINUS
returns-then-peek-ne-MINUS c =
    let a = c.args in
    let no : byte_at a.text.now a.at ≡ 45 → ⊥ = λ e. c.if-peek-ne-MINUS.true (c.peek.ensures ∙ e) in
    record { ended_value = c.value.ensures; size_at = (λ k n e h. dimension_other k a.text.now a.at e n h no c.requires); size_value = member_none a.text.now a.at (Err Refusal.NotShape) c.requires no }

pub overflow_add-at : goal.overflow_add-at
overflow_add-at c =
    let lt = byte_in c.args.text.now c.args.at 45 (sym c.peek.ensures ∙ c.if-peek-ne-MINUS.false) (lit< tt) in
    omega arith

pub returns : goal.returns
returns c =
    let a = c.args in
    let s = a.text.now in
    let hk = minus_kind (byte_at s a.at) (sym c.peek.ensures ∙ c.if-peek-ne-MINUS.false) in record { ended_value = numeral_ends s (a.at + 1) c.numeral_at-d.result c.numeral_at-d.ensures ∙ token_value a.room s a.at Minus hk refl; size_at = (λ k n e h. dimension_minus k s a.at e n h (answer c.negative.result) hk (λ e he. c.negative.ensures.by_index _ (numeral_number s (a.at + 1) c.numeral_at-d.result c.numeral_at-d.ensures e he))); size_value = member_minus s a.at c.negative.result c.requires c.numeral_at-d.result c.numeral_at-d.ensures (sym c.peek.ensures ∙ c.if-peek-ne-MINUS.false) c.negative.ensures.value }
