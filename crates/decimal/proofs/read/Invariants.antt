-- `decimal::read` meets its contract: each turn takes one digit (`read_on_digit`), and it ends at the first byte that is not a digit, at the end of the text, or after eight digits. The
-- number of so many digits is below 10 to that power, so that it fits with one more.
use Rattle.std.specs.Prelude.{Some}
use Prim.Native.Nat.{◌^◌, ◌<◌}
use mathlib.Core.Path.{◌≡◌}
use Rattle.decimal.specs.Read.{digits_read}
use Rattle.decimal.specs.Blocks.{read_on}
use Rattle.decimal.proofs.read.Given as goal

abbrev pub invariant-loop-count : goal.invariant-loop-count
invariant-loop-count l = (digits_read l.text ≡ read_on l.text l.count (Some l.n)) × (l.n < 10 ^ l.count)
