-- `write_text::put_text` meets its contract: the refusals of write_depth first, and then the text.
use Rattle.counts.proofs.HandedOn.{handed_on}
use Rattle.refusal.specs.Answers.{answer}
use mathlib.Core.Path.{refl}
use Rattle.counts.proofs.OneOutcome.{matched}
use Rattle.write_text.proofs.Prints.{prints_refused, accepted, unaccepted, accepted_text}
use Rattle.write_text.proofs.put_text.Goals as goal

pub put_dict-requires : goal.put_dict-requires
put_dict-requires c = let u = accepted _ _ _ _ _ (matched answer c.check.ensures c.in_ok-check.was) in (u.0, u.2)

pub returns : goal.returns
returns c = accepted_text _ _ _ _ _ (matched answer c.check.ensures c.in_ok-check.was) _ _ _ _ c.put_dict.ensures

pub returns-in_err-check : goal.returns-in_err-check
returns-in_err-check c = rw (handed_on _ c.in_err-check.field-0.0 c.from_residual.ensures)
    (prints_refused _ _ _ _ _ refl (unaccepted _ _ _ _ _ (matched answer c.check.ensures c.in_err-check.was)))
