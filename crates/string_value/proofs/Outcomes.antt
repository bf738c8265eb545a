-- No second outcome satisfies the statement of this crate's public function.
use Prim.Native.Nat.{ℕ}
use mathlib.Core.Path.{◌≡◌}
use mathlib.Core.List.{List}
use lib.ListN.{length}
use Rattle.counts.specs.OneOutcome.{OneOutcome}
use Rattle.counts.proofs.OneOutcome.{by_equation}
use Rattle.string_value.specs.Elements.{trimmed}

pub kept_one : (run : List ℕ) → OneOutcome {A = ℕ} (λ r. r ≡ length (trimmed run))
kept_one run = by_equation (length (trimmed run))
