-- Each turn puts one byte more.
use mathlib.Core.Path.{refl}
use Rattle.emit.proofs.Pieces.{left_more, left_end}
use Rattle.element_text.specs.Text.{all_text, byte_text}
use Rattle.element_text.proofs.put_each_byte.Goals as goal

pub loop-b-preserved : goal.loop-b-preserved
loop-b-preserved c = left_more byte_text (all_text byte_text) (λ x. refl) (λ b s x. refl) _ _ _ _ _ _ _ _ c.loop-b.invariant c.loop-b-test.true c.put_byte-p.ensures

pub returns : goal.returns
returns c = left_end byte_text (all_text byte_text) (λ x. refl) (λ b s x. refl) _ _ _ _ _ _ c.loop-b.invariant c.loop-b-test.false
