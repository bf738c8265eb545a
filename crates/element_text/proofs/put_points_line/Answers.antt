-- What was judged is put between two quotes.
use Rattle.counts.proofs.HandedOn.{handed_on}
use Rattle.counts.proofs.OneOutcome.{matched}
use Rattle.refusal.specs.Answers.{points_answer}
use Rattle.counts.specs.Outcome.{each}
use Rattle.string_value.specs.Elements.{trimmed, points}
use Rattle.element_text.specs.Text.{points_text, lined}
use Rattle.element_text.proofs.Lines.{judged, judged_bad, judged_inside, points_line, refuses_each}
use Rattle.element_text.proofs.put_points_line.Goals as goal

pub put_each_point-after_last-requires : goal.put_each_point-after_last-requires
put_each_point-after_last-requires c = judged_inside (points c.args.order c.args.run.now) _ (judged (points c.args.order c.args.run.now) _ (matched points_answer c.judge.ensures c.in_ok-n.was))

pub returns : goal.returns
returns c = points_line (points c.args.order c.args.run.now) _ (judged (points c.args.order c.args.run.now) _ (matched points_answer c.judge.ensures c.in_ok-n.was)) _ _ _ _ _ _ _ c.put_bytes-inside.ensures c.put_each_point-after_last.ensures c.put_bytes.ensures

pub returns-in_err-n : goal.returns-in_err-n
returns-in_err-n c = rw (handed_on _ c.in_err-n.field-0.0 c.from_residual.ensures)
    (refuses_each (λ cs. lined (points_text cs)) (each trimmed (points c.args.order c.args.run.now)) _ _ (judged_bad (points c.args.order c.args.run.now) _ (matched points_answer c.judge.ensures c.in_err-n.was)))
