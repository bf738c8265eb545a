-- The invariant: the string is the bytes passed, followed by its pieces from `at` on; the bytes passed, `len` of them, are stored, and `escape` is whether one of them is an
-- escape. A turn stores the byte of an escape, or a run of plain bytes and the byte of the escape after it.
use Prim.Native.Nat.{ℕ, ◌-◌, ◌≤◌}
use mathlib.Core.Path.{◌≡◌}
use mathlib.Core.List.{List}
use lib.ListN.{length}
use lib.Seq.{sets}
use Rattle.literal_escapes.proofs.Spelling.{Along}
use Rattle.literal_decode.proofs.decode_from.Given as goal

abbrev pub invariant-loop-escape : goal.invariant-loop-escape
invariant-loop-escape l = (us : List ℕ) × Along l.quote l.text l.from l.at us l.escape × (l.at ≤ length l.text) × (l.len ≡ length us) × (l.out ≡ sets l.initial.out 0 us)

abbrev pub decreases-loop-escape : goal.decreases-loop-escape
decreases-loop-escape l = length l.text - l.at
