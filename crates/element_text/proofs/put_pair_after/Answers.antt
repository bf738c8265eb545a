-- One float after the other.
use mathlib.Core.List.{◌∷◌, ◌++◌}
use Rattle.emit.proofs.Pieces.{emits_then}
use Rattle.element_text.specs.Floats.{parts_text}
use Rattle.element_text.proofs.put_pair_after.Goals as goal

pub returns : goal.returns
returns c = emits_then (λ x. c.args.word.now ++ parts_text c.args.real (32 ∷ x)) (parts_text c.args.imaginary) _ _ _ _ _ _
    (emits_then (λ x. c.args.word.now ++ parts_text c.args.real x) (λ x. 32 ∷ x) _ _ _ _ _ _ c.put_float_after-after_real.ensures c.put-between.ensures) c.put_float.ensures
