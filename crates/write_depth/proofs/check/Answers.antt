-- `write_depth::check` meets its contract: the record's own refusals first, and then the count of the brackets.
use Rattle.counts.proofs.HandedOn.{handed_on}
use Rattle.refusal.specs.Answers.{answer}
use borrow.Author.Tests.{not-true, not-false}
use Rattle.counts.proofs.OneOutcome.{matched}
use Rattle.write_depth.proofs.Views.{check_refused, accepted_listed, accepted_deep, accepted_shallow}
use Rattle.write_depth.proofs.check.Goals as goal

pub returns-in_err-checked : goal.returns-in_err-checked
returns-in_err-checked c = rw (handed_on _ c.in_err-checked.field-0.0 c.from_residual.ensures)
    (check_refused _ _ _ _ _ (matched answer c.check.ensures c.in_err-checked.was))

pub within-requires : goal.within-requires
within-requires c = accepted_listed _ c.args.given.names.now c.args.given.shape.now c.args.given.order _ (matched answer c.check.ensures c.in_ok-checked.was)

pub returns-then-not-within : goal.returns-then-not-within
returns-then-not-within c = accepted_deep _ _ _ _ _ (matched answer c.check.ensures c.in_ok-checked.was) _ c.within.ensures (not-true _ c.if-not-within.true-raw)

pub returns : goal.returns
returns c = accepted_shallow _ _ _ _ _ (matched answer c.check.ensures c.in_ok-checked.was) _ c.within.ensures (not-false _ c.if-not-within.false-raw)
