-- The word, then the float.
use mathlib.Core.List.{◌++◌}
use Rattle.emit.proofs.Pieces.{emits_then}
use Rattle.element_text.specs.Floats.{parts_text}
use Rattle.element_text.proofs.put_float_after.Goals as goal

pub returns : goal.returns
returns c = emits_then (λ x. c.args.word.now ++ x) (parts_text c.args.p) _ _ _ _ _ _ c.put_bytes-at.ensures c.put_float.ensures
