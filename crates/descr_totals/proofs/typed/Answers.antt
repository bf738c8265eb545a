-- By the cases of the answer.
use Rattle.counts.proofs.HandedOn.{handed_on}
use mathlib.Core.Path.{refl, ap}
use Rattle.counts.specs.Outcome.{gives}
use Rattle.descr_totals.proofs.typed.Goals as goal

pub returns : goal.returns
returns c = rw c.in_ok-t.was (ap gives c.plain.ensures)

pub returns-in_err-t : goal.returns-in_err-t
returns-in_err-t c = rw (handed_on _ c.in_err-t.field-0.0 c.from_residual.ensures, c.in_err-t.was) refl
