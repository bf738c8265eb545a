-- No second outcome satisfies a statement of this crate's public functions.
use Prim.Native.Nat.{ℕ}
use mathlib.Core.Path.{◌≡◌}
use Rattle.counts.specs.OneOutcome.{OneOutcome}
use Rattle.counts.proofs.OneOutcome.{by_equation}
use Rattle.value_float.specs.declared.Single.{Single}
use Rattle.value_float.specs.declared.Double.{Double}
use Rattle.value_float.specs.Floats.{single_of, double_of}
use Rattle.value_float.specs.Half.{half_of}

pub single_of_one : (bits : ℕ) → OneOutcome {A = Single} (λ r. r ≡ single_of bits)
single_of_one bits = by_equation (single_of bits)

pub double_of_one : (bits : ℕ) → OneOutcome {A = Double} (λ r. r ≡ double_of bits)
double_of_one bits = by_equation (double_of bits)

pub from_half_one : (bits : ℕ) → OneOutcome {A = Single} (λ r. r ≡ half_of bits)
from_half_one bits = by_equation (half_of bits)
