-- The bytes between two quotes.
use mathlib.Core.List.{◌∷◌}
use Rattle.emit.proofs.Pieces.{emits_then}
use Rattle.element_text.specs.Text.{all_text, byte_text}
use Rattle.element_text.proofs.put_bytes_line.Goals as goal

pub returns : goal.returns
returns c = let v = c.args.value.now in
    emits_then (λ x. 98 ∷ 121 ∷ 116 ∷ 101 ∷ 115 ∷ 32 ∷ 39 ∷ all_text byte_text v x) (λ x. 39 ∷ 10 ∷ x) _ _ _ _ _ _
    (emits_then (λ x. 98 ∷ 121 ∷ 116 ∷ 101 ∷ 115 ∷ 32 ∷ 39 ∷ x) (all_text byte_text v) _ _ _ _ _ _ c.put_bytes-inside.ensures c.put_each_byte-after_last.ensures) c.put_bytes.ensures
