-- Each turn puts one code point more, and each of them is a scalar value.
use lib.ListN.{take}
use Rattle.emit.proofs.Pieces.{Left}
use Rattle.string_value.specs.Elements.{points, found}
use Rattle.element_text.specs.Text.{all_text, point_text}
use Rattle.element_text.proofs.put_each_point.Given as goal

abbrev pub invariant-loop-i : goal.invariant-loop-i
invariant-loop-i l = Left (all_text point_text) (take l.fn.n.0 (found (points l.order l.run))) l.initial.out l.at l.out l.p l.i
