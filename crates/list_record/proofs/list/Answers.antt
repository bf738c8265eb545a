-- `list_record::list` meets its contract: the record's own refusals first.
use Rattle.counts.proofs.HandedOn.{handed_on}
use Rattle.refusal.specs.Answers.{answer}
use Rattle.counts.proofs.OneOutcome.{matched}
use Rattle.header_prefix.specs.Answer.{version_is}
use Rattle.place.proofs.Placing.{accepted_all}
use Rattle.list_record.proofs.Whole.{lists_one, lists_refused, refused_by_check}
use Rattle.list_record.proofs.list.Goals as goal

pub list_checked-requires : goal.list_checked-requires
list_checked-requires c = let u = accepted_all _ _ _ _ _ (matched answer c.check.ensures c.in_ok-found.was) in (u.0, u.2)

pub returns : goal.returns
returns c = let a = c.args in let u = accepted_all _ _ _ _ _ (matched answer c.check.ensures c.in_ok-found.was) in lists_one (version_is a.version) a.start.0 a.given.table.now a.given.names.now a.given.shape.now a.given.order a.out.now _ c.list_checked.result _ u.1 (c.list_checked.ensures u.0 u.2)

pub returns-in_err-found : goal.returns-in_err-found
returns-in_err-found c = let a = c.args in rw (handed_on _ c.in_err-found.field-0.0 c.from_residual.ensures)
    (lists_refused (version_is a.version) a.start.0 a.given.table.now a.given.names.now a.given.shape.now a.given.order a.out.now c.in_err-found.field-0.0 (refused_by_check _ _ _ _ _ (matched answer c.check.ensures c.in_err-found.was)))
