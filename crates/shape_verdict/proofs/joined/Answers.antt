-- By the verdict, and then the member.
use Rattle.counts.proofs.HandedOn.{handed_on}
use mathlib.Core.Path.{refl}
use Rattle.shape_verdict.proofs.Outlines.{joined_good}
use Rattle.shape_verdict.proofs.joined.Goals as goal

pub returns : goal.returns
returns c = joined_good _ _ _ _ _ c.in_ok-o.was c.in_ok-n.was c.extended.ensures

pub returns-in_err-o : goal.returns-in_err-o
returns-in_err-o c = rw (handed_on _ c.in_err-o.field-0.0 c.from_residual.ensures, c.in_err-o.was) refl

pub returns-in_err-n : goal.returns-in_err-n
returns-in_err-n c = rw (handed_on _ c.in_err-n.field-0.0 c.from_residual-in_err-n.ensures, c.in_ok-o.was, c.in_err-n.was) refl
