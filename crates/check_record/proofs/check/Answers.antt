-- `check_record::check` meets its contract: what `check_dtype` refuses is refused, and after it 22 is tested.
use Rattle.refusal.specs.Answers.{answer}
use Rattle.check_record.proofs.Checks.{check_refused, check_counted}
use Rattle.counts.proofs.OneOutcome.{matched}
use mathlib.Core.Path.{refl, ◌∙◌}
use Rattle.check_record.proofs.check.Goals as goal

pub returns : goal.returns
returns c =
    let a = c.args in
    c.counted.ensures ∙ check_counted a.given.table.now a.given.names.now _ _ _ refl _ (matched answer c.check_dtype.ensures c.in-Ok.is)

pub returns-in-Err : goal.returns-in-Err
returns-in-Err c = check_refused _ _ _ _ _ (matched answer c.check_dtype.ensures c.in-Err.is)
