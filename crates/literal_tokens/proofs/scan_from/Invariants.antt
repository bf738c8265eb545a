-- The invariant: the string is the bytes passed, followed by its pieces from `at` on; `len` and `escape` describe the bytes passed. A turn passes an escape, or a run of
-- plain bytes and the piece after it.
use Prim.Native.Nat.{ℕ, ◌-◌}
use mathlib.Core.Path.{◌≡◌}
use mathlib.Core.List.{List}
use lib.ListN.{length}
use Rattle.literal_escapes.proofs.Spelling.{Along}
use Rattle.literal_tokens.proofs.scan_from.Given as goal

abbrev pub invariant-loop-escape : goal.invariant-loop-escape
invariant-loop-escape l = (us : List ℕ) × (l.len ≡ length us) × Along l.quote l.text l.from l.at us l.escape

abbrev pub decreases-loop-escape : goal.decreases-loop-escape
decreases-loop-escape l = length l.text - l.at
