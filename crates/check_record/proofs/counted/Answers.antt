-- `check_record::counted` meets its contract: 22 or the count is what `shape::count` returns.
use Rattle.counts.proofs.HandedOn.{handed_on}
use Rattle.check_record.specs.Answer.{summary_of}
use Rattle.refusal.specs.Answers.{items_answer}
use Rattle.counts.specs.Outcome.{Outcome, each}
use Rattle.counts.proofs.OneOutcome.{matched}
use Prim.Native.Nat.{ℕ}
use mathlib.Core.Path.{ap}
use Rattle.check_record.proofs.counted.Goals as goal

pub returns : goal.returns
returns c =
    let a = c.args in
    ap (λ (x : Outcome ℕ). each (summary_of a.entries a.size a.shape.now) x) (matched items_answer c.count.ensures c.in_ok-count.was)

pub returns-in_err-count : goal.returns-in_err-count
returns-in_err-count c = let a = c.args in rw (handed_on _ c.in_err-count.field-0.0 c.from_residual.ensures)
    (ap (λ (x : Outcome ℕ). each (summary_of a.entries a.size a.shape.now) x) (matched items_answer c.count.ensures c.in_err-count.was))
