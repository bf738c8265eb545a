-- By the two cases of the verdict, and of a good one by its limit.
use Rattle.counts.proofs.HandedOn.{handed_on}
use Rattle.refusal.specs.Answers.{answer}
use Rattle.refusal.specs.declared.Refusal.{Refusal}
use Rattle.shape_verdict.specs.declared.Outline.{Outline}
use Rattle.std.specs.Prelude.{Result}
use mathlib.Core.Path.{sym, ap}
use Rattle.counts.specs.Outcome.{then}
use Rattle.judge.specs.Found.{ranked_at}
use Rattle.judge.proofs.Found.{shape_by_lem}
use Rattle.judge.proofs.keys.shape_found.Goals as goal

pub returns-in_err-outline : goal.returns-in_err-outline
returns-in_err-outline c = rw (handed_on _ c.in_err-outline.field-0.0 c.from_residual.ensures)
    (ap (λ (v : Result Outline Refusal). then (answer v) (ranked_at c.args.at)) (sym c.in_err-outline.was))

pub returns-in_err-ranked : goal.returns-in_err-ranked
returns-in_err-ranked c =
    let a = c.args in
    rw (handed_on _ c.in_err-ranked.field-0.0 c.from_residual-in_err-ranked.ensures)
    (shape_by_lem a.at a.judged.verdict _ c.ranked.result _ c.in_ok-outline.was c.ranked.ensures c.in_err-ranked.was)

pub returns : goal.returns
returns c =
    let a = c.args in
    shape_by_lem a.at a.judged.verdict _ c.ranked.result _ c.in_ok-outline.was c.ranked.ensures c.in_ok-ranked.was
