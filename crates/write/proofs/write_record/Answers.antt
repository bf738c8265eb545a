-- `write::write_record` meets its contract: each answer by the tests that led there.
use Rattle.counts.proofs.HandedOn.{handed_on}
use Rattle.refusal.specs.Answers.{answer}
use Rattle.counts.proofs.OneOutcome.{matched}
use Rattle.write.proofs.Ascii.{by_bytes}
use Rattle.write.proofs.Answers.{record_4, record_28, record_written}
use Rattle.write.proofs.write_record.Goals as goal

pub returns-then-out-plan : goal.returns-then-out-plan
returns-then-out-plan c = λ x e m. record_28 _ _ _ _ x e _ _ m _ (by_bytes _ _ c.is_ascii.ensures.cases) _ (matched answer c.plan_for.ensures c.in_ok-plan.was) c.if-out-plan.true

pub returns : goal.returns
returns c = λ x e m. record_written _ _ _ _ x e _ _ m _ (by_bytes _ _ c.is_ascii.ensures.cases) _ (matched answer c.plan_for.ensures c.in_ok-plan.was) c.if-out-plan.false _ _ c.put_header.ensures

pub returns-in_err-plan : goal.returns-in_err-plan
returns-in_err-plan c = λ x e m. rw (handed_on _ c.in_err-plan.field-0.0 c.from_residual.ensures)
    (record_4 _ _ _ _ x e _ _ m _ (by_bytes _ _ c.is_ascii.ensures.cases) c.in_err-plan.field-0.0 (matched answer c.plan_for.ensures c.in_err-plan.was))
