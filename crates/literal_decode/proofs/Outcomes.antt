-- No second outcome satisfies a statement of this crate's public functions.
use Prim.Native.Nat.{ℕ}
use mathlib.Core.Path.{◌≡◌}
use mathlib.Core.List.{List}
use lib.Seq.{sets}
use Rattle.counts.specs.OneOutcome.{OneOutcome}
use Rattle.counts.proofs.OneOutcome.{by_equation, beside}
use Rattle.literal_escapes.specs.Strings.{spelled, scanned}
use Rattle.literal_escapes.specs.declared.Scan.{Scan}

pub decode_one : (text : List ℕ) (from quote : ℕ) (out : List ℕ) → OneOutcome {A = Scan × List ℕ} (λ r. (r.0 ≡ scanned (spelled quote text from)) × (r.1 ≡ sets out 0 (spelled quote text from).bytes))
decode_one text from quote out = beside (by_equation (scanned (spelled quote text from))) (by_equation (sets out 0 (spelled quote text from).bytes))
