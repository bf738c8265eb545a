-- `decimal::by_blocks` meets its contract: reading on is the same before a block and after it (`read_on_block`).
use Prim.Native.Nat.{◌-◌}
use mathlib.Core.Path.{◌≡◌}
use lib.ListN.{length}
use Rattle.decimal.specs.Blocks.{read_on}
use Rattle.decimal.proofs.by_blocks.Given as goal

abbrev pub invariant-loop-block : goal.invariant-loop-block
invariant-loop-block l = read_on l.text l.from l.initial.number ≡ read_on l.text l.count l.number

abbrev pub decreases-loop-block : goal.decreases-loop-block
decreases-loop-block l = length l.text - l.count
