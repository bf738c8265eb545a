-- No second outcome satisfies a statement of this crate's public functions.
use Prim.Native.Nat.{ℕ}
use mathlib.Core.Path.{◌≡◌}
use Rattle.counts.specs.OneOutcome.{OneOutcome}
use Rattle.counts.proofs.OneOutcome.{by_equation}
use Rattle.literal_classes.specs.Classes.{class_of}

pub class_of_one : (b : ℕ) → OneOutcome {A = ℕ} (λ r. r ≡ class_of b)
class_of_one b = by_equation (class_of b)
