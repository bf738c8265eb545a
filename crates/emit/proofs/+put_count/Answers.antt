use native.Mathlib.Omega.{arith}
use mathlib.Core.Path.{◌∙◌}
use Rattle.emit.proofs.Pieces.{emits_length, emits_low, emits_high}
use Rattle.emit.proofs.+put_count.Goals as goal

pub shape_of-out-then-n-lt10 : goal.shape_of-out-then-n-lt10
shape_of-out-then-n-lt10 t c = emits_length _ _ _ _ _ c.put.ensures

pub returns-then-n-lt10 : goal.returns-then-n-lt10
returns-then-n-lt10 t c = emits_low _ _ _ _ _ c.if-n-lt10.true c.put.ensures

pub put_count-p-requires : goal.put_count-p-requires
put_count-p-requires t c = omega arith

pub shape_of-out : goal.shape_of-out
shape_of-out t c = emits_length _ _ _ _ _ c.put-2.ensures ∙ emits_length _ _ _ _ _ c.put_count-p.ensures

pub returns : goal.returns
returns t c = emits_high _ _ _ _ _ _ _ c.if-n-lt10.false c.put_count-p.ensures c.put-2.ensures
