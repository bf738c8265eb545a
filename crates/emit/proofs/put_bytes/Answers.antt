-- `emit::put_bytes` meets its contract: each turn writes one byte more of `s`.
use mathlib.Core.Path.{refl}
use mathlib.Core.List.{◌∷◌, ◌++◌}
use Rattle.emit.proofs.Pieces.{left_start, left_more, left_end}
use Rattle.emit.proofs.put_bytes.Goals as goal

pub loop-b-init : goal.loop-b-init
loop-b-init c = left_start ◌∷◌ ◌++◌ (λ x. refl) (λ b s x. refl) _ _ _

pub loop-b-preserved : goal.loop-b-preserved
loop-b-preserved c =
    left_more ◌∷◌ ◌++◌ (λ x. refl) (λ b s x. refl) _ _ _ _ _ _ _ _ c.loop-b.invariant c.loop-b-test.true c.put-p.ensures

pub shape_of-out : goal.shape_of-out
shape_of-out c = c.loop-b.invariant.same

pub returns : goal.returns
returns c = left_end ◌∷◌ ◌++◌ (λ x. refl) (λ b s x. refl) _ _ _ _ _ _ c.loop-b.invariant c.loop-b-test.false
