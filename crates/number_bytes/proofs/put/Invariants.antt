-- `number_bytes::put` meets its contract: each turn writes one byte more.
use mathlib.Core.List.{◌++◌}
use Rattle.emit.proofs.Pieces.{Left}
use Rattle.number_bytes.specs.Numbers.{out_order}
use Rattle.number_bytes.proofs.put.Given as goal

abbrev pub invariant-loop-i : goal.invariant-loop-i
invariant-loop-i l = Left ◌++◌ (out_order l.order l.width l.n) l.initial.out l.at l.out l.p l.i
