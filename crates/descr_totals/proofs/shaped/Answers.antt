-- By the cases of the two: the first refusal stays.
use Rattle.counts.proofs.HandedOn.{handed_on}
use mathlib.Core.Path.{refl, ap}
use Rattle.counts.specs.Outcome.{gives}
use Rattle.descr_totals.proofs.shaped.Goals as goal

pub returns : goal.returns
returns c = rw (c.in_ok-t.was, c.in_ok-o.was) (ap gives c.arrays.ensures)

pub returns-in_err-t : goal.returns-in_err-t
returns-in_err-t c = rw (handed_on _ c.in_err-t.field-0.0 c.from_residual.ensures, c.in_err-t.was) refl

pub returns-in_err-o : goal.returns-in_err-o
returns-in_err-o c = rw (handed_on _ c.in_err-o.field-0.0 c.from_residual-in_err-o.ensures, c.in_ok-t.was, c.in_err-o.was) refl
