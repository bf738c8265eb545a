-- No second outcome satisfies a statement of this crate's public functions.
use Prim.Native.Nat.{ℕ}
use mathlib.Core.Path.{◌≡◌}
use mathlib.Core.List.{List}
use mathlib.Core.Bool.{Bool, ◌&&◌}
use lib.ListN.{length}
use lib.Dec.{eqb, ltb}
use Rattle.counts.specs.OneOutcome.{OneOutcome}
use Rattle.counts.proofs.OneOutcome.{by_equation}
use Rattle.literal_bytes.specs.Text.{byte_at, past}
use Rattle.literal_bytes.specs.Plain.{is_plain}

pub byte_is_one : (text : List ℕ) (at b : ℕ) → OneOutcome {A = Bool} (λ r. r ≡ (ltb at (length text) && eqb (byte_at text at) b))
byte_is_one text at b = by_equation (ltb at (length text) && eqb (byte_at text at) b)

-- plain_any and plain_to: the end of a run
pub run_one : (text : List ℕ) (from quote : ℕ) → OneOutcome {A = ℕ} (λ r. r ≡ past (is_plain quote) text from)
run_one text from quote = by_equation (past (is_plain quote) text from)
