-- `string_element::put_points` meets its contract: each turn writes one code point more of the value filled up.
use Rattle.emit.proofs.Pieces.{Left}
use Rattle.string_value.specs.Runs.{zero_filled, point_bytes}
use Rattle.string_element.proofs.put_points.Given as goal

abbrev pub invariant-loop-i : goal.invariant-loop-i
invariant-loop-i l = Left (point_bytes l.order) (zero_filled l.fn.size.0 l.value) l.initial.out 0 l.out l.p l.i
