-- Each turn puts one byte more.
use Rattle.emit.proofs.Pieces.{Left}
use Rattle.element_text.specs.Hexadecimal.{hex_digits}
use Rattle.element_text.specs.Text.{all_text}
use Rattle.element_text.proofs.put_each_hex.Given as goal

abbrev pub invariant-loop-b : goal.invariant-loop-b
invariant-loop-b l = Left (all_text (hex_digits 2)) l.value l.initial.out l.at l.out l.p l.b-index
