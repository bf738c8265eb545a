-- `place::place` meets its contract: the record's own refusals first, and then the place in it.
use Rattle.counts.proofs.HandedOn.{handed_on}
use Rattle.refusal.specs.Answers.{answer}
use Rattle.place.proofs.Placing.{place_refused, accepted_all, place_given}
use Rattle.counts.proofs.OneOutcome.{matched}
use mathlib.Core.Path.{◌∙◌}
use Rattle.place.proofs.place.Goals as goal

pub in_record-requires : goal.in_record-requires
in_record-requires c = let u = accepted_all _ _ _ _ _ (matched answer c.check.ensures c.in_ok-found.was) in (_, u.0, u.2)

pub returns : goal.returns
returns c = let u = accepted_all _ _ _ _ _ (matched answer c.check.ensures c.in_ok-found.was) in c.in_record.ensures _ u.0 u.2 ∙ place_given _ _ _ _ _ _ _ _ _ u.1

pub returns-in_err-found : goal.returns-in_err-found
returns-in_err-found c = rw (handed_on _ c.in_err-found.field-0.0 c.from_residual.ensures)
    (place_refused _ _ _ _ _ _ _ _ _ (matched answer c.check.ensures c.in_err-found.was))
