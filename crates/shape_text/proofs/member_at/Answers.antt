-- Digits end somewhere exactly where there is one, and then they are the integer there.
use Rattle.refusal.specs.Answers.{answer}
use borrow.Enum.Refused.{opened}
use mathlib.Core.Path.{refl, sym, ◌∙◌}
use Rattle.literal_bytes.specs.declared.ValueKind.TheVariants.{Digit}
use Rattle.shape_text.proofs.Numbers.{token_value, numeral_ends, numeral_number, numeral_there, no_numeral, dimension_digit, member_digit}
use Rattle.shape_text.proofs.member_at.Goals as goal

pub other_at-requires : goal.other_at-requires
other_at-requires c = no_numeral c.args.text.now c.args.at c.numeral_at-d.result c.numeral_at-d.ensures (opened c.in_default.in_default-own.keys2)

pub returns : goal.returns
returns c =
    let a = c.args in
    let s = a.text.now in
    let r = c.numeral_at-d.result in
    let hr = c.numeral_at-d.ensures in
    let hk = numeral_there s a.at r hr _ c.in-Value.is in record { ended_value = sym c.in-Value.is ∙ numeral_ends s a.at r hr ∙ token_value a.room s a.at Digit hk refl; size_at = (λ k n e h. dimension_digit k s a.at e n h (answer c.positive.result) hk (λ e he. c.positive.ensures.by_index _ (numeral_number s a.at r hr e he))); size_value = member_digit s a.at c.positive.result r hr _ c.in-Value.is c.positive.ensures.value }
