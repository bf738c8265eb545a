-- `string_element::judge` meets its contract: each turn takes one code point more. The measure is what is left of the run.
use Prim.Native.Nat.{◌-◌}
use lib.ListN.{length}
use Rattle.string_value.proofs.Scalars.{Judging}
use Rattle.string_element.proofs.judge.Given as goal

abbrev pub invariant-loop-at : goal.invariant-loop-at
invariant-loop-at l = Judging l.order l.run l.at l.count l.kept

abbrev pub decreases-loop-at : goal.decreases-loop-at
decreases-loop-at l = length l.run - l.at
