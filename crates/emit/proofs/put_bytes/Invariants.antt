-- `emit::put_bytes` meets its contract: each turn writes one byte more of `s`.
use mathlib.Core.List.{◌++◌}
use Rattle.emit.proofs.Pieces.{Left}
use Rattle.emit.proofs.put_bytes.Given as goal

abbrev pub invariant-loop-b : goal.invariant-loop-b
invariant-loop-b l = Left ◌++◌ l.s l.initial.out l.at l.out l.p l.b-index
