-- No second outcome satisfies a statement of this crate's public functions, which are equations.
use Prim.Native.Nat.{ℕ, ◌-◌}
use mathlib.Core.Path.{◌≡◌}
use mathlib.Core.Bool.{Bool}
use mathlib.Core.List.{List}
use lib.Dec.{ltb}
use Rattle.counts.specs.OneOutcome.{OneOutcome}
use Rattle.counts.proofs.OneOutcome.{by_equation}
use Rattle.dtype.specs.PlainBytes.{bytes_for}
use Rattle.dtype.specs.Limits.{over}
use Rattle.dtype.specs.Seen.{some_from, object_at, arrays_from}

pub too_deep_one : (t : List ℕ) (n : ℕ) → OneOutcome {A = Bool} (λ r. r ≡ some_from (λ e. ltb 32 (arrays_from t (n - e) e)) n 0)
too_deep_one t n = by_equation (some_from (λ e. ltb 32 (arrays_from t (n - e) e)) n 0)

pub has_object_one : (t : List ℕ) (n : ℕ) → OneOutcome {A = Bool} (λ r. r ≡ some_from (object_at t) n 0)
has_object_one t n = by_equation (some_from (object_at t) n 0)

pub plain_over_one : (letter size : ℕ) → OneOutcome {A = Bool} (λ r. r ≡ over (bytes_for letter size))
plain_over_one letter size = by_equation (over (bytes_for letter size))
