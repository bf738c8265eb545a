-- By its kind.
use Rattle.element_text.specs.Floats.{special_text, finite_text}
use Rattle.element_text.proofs.Pieces.{emits_if, emits_else}
use Rattle.element_text.proofs.put_unsigned.Goals as goal

pub returns-then-p : goal.returns-then-p
returns-then-p c = emits_if (special_text c.args.p) (finite_text c.args.p) _ _ _ _ _ c.if-p.true c.put_special.ensures

pub returns : goal.returns
returns c = emits_else (special_text c.args.p) (finite_text c.args.p) _ _ _ _ _ c.if-p.false c.put_finite.ensures
