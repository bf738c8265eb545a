-- By the cases of the two.
use Rattle.counts.proofs.HandedOn.{handed_on}
use mathlib.Core.Path.{ap, refl}
use Rattle.counts.specs.Outcome.{gives}
use Rattle.descr_totals.proofs.join.Goals as goal

pub returns-in_err-t : goal.returns-in_err-t
returns-in_err-t c = rw (handed_on _ c.in_err-t.field-0.0 c.from_residual.ensures, c.in_err-t.was) refl

pub returns-in_err-u : goal.returns-in_err-u
returns-in_err-u c = rw (handed_on _ c.in_err-u.field-0.0 c.from_residual-in_err-u.ensures, c.in_ok-t.was, c.in_err-u.was) refl

pub returns : goal.returns
returns c = rw (c.in_ok-t.was, c.in_ok-u.was) (ap gives c.plus.ensures)
