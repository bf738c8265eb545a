-- `string_element::copy_points` meets its contract: each turn writes one code point more, and each of them is a scalar value.
use Rattle.string_value.specs.Elements.{points, found}
use Rattle.string_value.proofs.Places.{Copying}
use Rattle.string_element.proofs.copy_points.Given as goal

abbrev pub invariant-loop-i : goal.invariant-loop-i
invariant-loop-i l = Copying (found (points l.order l.run)) l.n.0 l.initial.out l.out l.i
