-- Each turn puts one byte more.
use mathlib.Core.Path.{refl}
use Rattle.emit.proofs.Pieces.{left_more, left_end}
use Rattle.element_text.specs.Hexadecimal.{hex_digits}
use Rattle.element_text.specs.Text.{all_text}
use Rattle.element_text.proofs.put_each_hex.Goals as goal

pub loop-b-preserved : goal.loop-b-preserved
loop-b-preserved c = left_more (hex_digits 2) (all_text (hex_digits 2)) (λ x. refl) (λ b s x. refl) _ _ _ _ _ _ _ _ c.loop-b.invariant c.loop-b-test.true c.put_hex-p.ensures

pub returns : goal.returns
returns c = left_end (hex_digits 2) (all_text (hex_digits 2)) (λ x. refl) (λ b s x. refl) _ _ _ _ _ _ c.loop-b.invariant c.loop-b-test.false
