-- By the gap: nothing more, a value that is no literal, a sub-shape and nothing more, or more.
use Rattle.refusal.specs.Answers.{answer}
use borrow.Enum.Refused.{opened}
use mathlib.Core.Path.{ap, ◌∙◌}
use Rattle.counts.specs.Outcome.{Outcome}
use Rattle.descr_totals.specs.declared.Totals.{Totals}
use Rattle.descr_totals.specs.Verdict.{both}
use Rattle.literal_bytes.proofs.Ends.{stops}
use Rattle.descr_field.proofs.Reach.{from_end}
use Rattle.descr_field.proofs.After.{says_none, says_stop, ends_stop, says_shape, ends_shape, says_more, ends_more}
use Rattle.descr_field.proofs.sub_shape.Goals as goal

pub returns-in_default : goal.returns-in_default
returns-in_default c =
    let a = c.args in
    let none = (opened c.in_default.in_default-own.keys2) in
    record { ended_value = c.ended.ensures ∙ from_end a.room a.text.now a.close a.g none; verdict_value = c.join.ensures ∙ says_none a.room a.text.now a.close (answer a.name) (answer a.of) a.g none }

pub returns-in_default-end : goal.returns-in_default-end
returns-in_default-end c =
    let a = c.args in
    let item = c.in-Item.is in
    let j = c.judge-shape in
    let stop = stops j.result.ended (opened c.in_default-end.in_default-end-own.keys2) in
    record { ended_value = c.wrong_form.ensures.ended_value ∙ ends_stop a.room a.text.now a.close (answer a.name) (answer a.of) a.g _ item j.result j.ensures stop; verdict_value = ap answer c.wrong_form.ensures.verdict_value ∙ says_stop a.room a.text.now a.close (answer a.name) (answer a.of) a.g _ item j.result j.ensures stop }

pub returns-in_default-next : goal.returns-in_default-next
returns-in_default-next c =
    let a = c.args in
    let item = c.in-Item.is in
    let j = c.judge-shape in
    let small = c.ranges.close.fits in
    let value = c.in-Value.is in
    let next = c.then_at-next in
    let none = (opened c.in_default-next.in_default-next-own.keys2) in record { ended_value = c.ended-in_default-next.ensures ∙ ends_shape a.room a.text.now a.close (answer a.name) (answer a.of) a.g _ item j.result j.ensures small _ value next.result next.ensures none; verdict_value = c.join-in_default-next.ensures ∙ (ap (λ (o : Outcome Totals). both (answer a.name) o) c.shaped.ensures ∙ says_shape a.room a.text.now a.close (answer a.name) (answer a.of) a.g _ item j.result j.ensures small _ value next.result next.ensures none) }

pub returns : goal.returns
returns c =
    let a = c.args in
    let item = c.in-Item.is in
    let j = c.judge-shape in
    let small = c.ranges.close.fits in
    let value = c.in-Value.is in
    let next = c.then_at-next in
    let more = c.in-Item-next.is in record { ended_value = c.wrong_form-2.ensures.ended_value ∙ (c.rest.ensures ∙ ends_more a.room a.text.now a.close (answer a.name) (answer a.of) a.g _ item j.result j.ensures small _ value next.result next.ensures _ more); verdict_value = ap answer c.wrong_form-2.ensures.verdict_value ∙ says_more a.room a.text.now a.close (answer a.name) (answer a.of) a.g _ item j.result j.ensures small _ value next.result next.ensures _ more }
