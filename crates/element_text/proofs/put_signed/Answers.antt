-- `-` and the magnitude, or the number.
use Rattle.element_text.proofs.Signed.{magnitude_fits, magnitude_cast, magnitude_more, emits_negative, positive_cast, emits_positive}
use Rattle.element_text.proofs.put_signed.Goals as goal

pub overflow_sub-n : goal.overflow_sub-n
overflow_sub-n c = magnitude_fits c.args.n c.ranges.n c.if-n-lt0.true

pub overflow_cast-n : goal.overflow_cast-n
overflow_cast-n c = magnitude_cast c.args.n c.ranges.n c.if-n-lt0.true

pub overflow_add-n : goal.overflow_add-n
overflow_add-n c = magnitude_more c.args.n c.ranges.n c.if-n-lt0.true

pub returns-then-n-lt0 : goal.returns-then-n-lt0
returns-then-n-lt0 c = emits_negative c.args.n c.ranges.n c.if-n-lt0.true _ _ _ _ _ _ c.put-p.ensures c.put_count.ensures

pub overflow_cast-n-2 : goal.overflow_cast-n-2
overflow_cast-n-2 c = positive_cast c.args.n c.ranges.n c.if-n-lt0.false

pub returns : goal.returns
returns c = emits_positive c.args.n c.ranges.n c.if-n-lt0.false _ _ _ _ c.put_count-2.ensures
