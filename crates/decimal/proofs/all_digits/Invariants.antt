-- The invariant: the block passes where the bytes passed and those that are left do.
use mathlib.Core.Path.{◌≡◌}
use mathlib.Core.Bool.{◌&&◌}
use lib.ListN.{drop}
use Rattle.decimal.specs.Blocks.{all_digits}
use Rattle.decimal.proofs.all_digits.Given as goal

abbrev pub invariant-loop-b : goal.invariant-loop-b
invariant-loop-b l = all_digits l.block ≡ l.all && all_digits (drop l.b-index l.block)
