-- The count and the units, a space between them.
use mathlib.Core.List.{◌∷◌, ◌++◌}
use Rattle.type_units.specs.Units.{unit_name}
use Rattle.element_text.specs.Text.{signed_text}
use Rattle.emit.proofs.Pieces.{emits_then}
use Rattle.element_text.proofs.Signed.{emits_reread}
use Rattle.element_text.proofs.put_time.Goals as goal

pub returns : goal.returns
returns c = let a = c.args in
    emits_then (λ x. 116 ∷ 105 ∷ 109 ∷ 101 ∷ 32 ∷ signed_text a.n (32 ∷ x)) (λ x. unit_name a.units ++ x) _ _ _ _ _ _
    (emits_then (λ x. 116 ∷ 105 ∷ 109 ∷ 101 ∷ 32 ∷ signed_text a.n x) (λ x. 32 ∷ x) _ _ _ _ _ _
    (emits_then (λ x. 116 ∷ 105 ∷ 109 ∷ 101 ∷ 32 ∷ x) (signed_text a.n) _ _ _ _ _ _ c.put_bytes-before_count.ensures (emits_reread a.n c.ranges.n _ _ _ _ c.put_signed-after_count.ensures)) c.put-before_units.ensures) c.put_name.ensures
