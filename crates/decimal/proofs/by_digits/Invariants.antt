-- `decimal::by_digits` meets its contract: reading on is the same before a digit and after it (`read_on_digit`), and ends at the first byte that is not a digit, or at the end of the text.
use Prim.Native.Nat.{◌≤◌}
use mathlib.Core.Path.{◌≡◌}
use mathlib.Core.Logic.{◌⊎◌}
use lib.ListN.{length}
use Rattle.decimal.specs.Blocks.{read_on}
use Rattle.decimal.proofs.by_digits.Given as goal

abbrev pub invariant-loop-count : goal.invariant-loop-count
invariant-loop-count l = (read_on l.text l.from l.initial.number ≡ read_on l.text l.count l.number) × ((l.count ≤ l.from) ⊎ (l.count ≤ length l.text))
