-- By the sign.
use Rattle.element_text.proofs.Values.{float_negative, float_positive}
use Rattle.element_text.proofs.put_float.Goals as goal

pub returns-then-p : goal.returns-then-p
returns-then-p c = float_negative _ _ _ _ _ _ _ c.if-p.true c.put-after_sign.ensures c.put_unsigned.ensures

pub returns : goal.returns
returns c = float_positive _ _ _ _ _ c.if-p.false c.put_unsigned-2.ensures
