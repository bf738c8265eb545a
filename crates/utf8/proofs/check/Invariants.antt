-- `utf8::check` meets its contract. A text whose largest byte is ASCII is ASCII, and so well-formed. Otherwise the loop's invariant: what `first_ill`
-- finds of the text is what `scan` finds from `at` on. A turn decodes one value and steps over it.
use Prim.Native.Nat.{◌≤◌, ◌-◌}
use mathlib.Core.Path.{◌≡◌}
use lib.ListN.{length, drop}
use Rattle.utf8.specs.Decode.{scan, first_ill}
use Rattle.utf8.proofs.check.Given as goal

abbrev pub invariant-loop-at : goal.invariant-loop-at
invariant-loop-at l = (l.at ≤ length l.text) × (first_ill l.text ≡ scan 0 l.at (drop l.at l.text))

abbrev pub decreases-loop-at : goal.decreases-loop-at
decreases-loop-at l = length l.text - l.at
