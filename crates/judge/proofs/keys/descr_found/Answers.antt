-- By the two cases of the verdict.
use Rattle.counts.proofs.HandedOn.{handed_on}
use Rattle.refusal.specs.Answers.{answer}
use Rattle.refusal.specs.declared.Refusal.{Refusal}
use Rattle.descr_totals.specs.declared.Totals.{Totals}
use Rattle.std.specs.Prelude.{Result}
use mathlib.Core.Path.{sym, ap}
use Rattle.counts.specs.Outcome.{each}
use Rattle.judge.specs.Found.{placed_descr}
use Rattle.judge.proofs.keys.descr_found.Goals as goal

pub returns : goal.returns
returns c = ap (λ (v : Result Totals Refusal). each (placed_descr c.args.at) (answer v)) (sym c.in_ok-totals.was)

pub returns-in_err-totals : goal.returns-in_err-totals
returns-in_err-totals c = rw (handed_on _ c.in_err-totals.field-0.0 c.from_residual.ensures)
    (ap (λ (v : Result Totals Refusal). each (placed_descr c.args.at) (answer v)) (sym c.in_err-totals.was))
