-- No second outcome satisfies a statement of this crate's functions.
use Prim.Native.Nat.{ℕ, ◌+◌, ◌*◌}
use mathlib.Core.Path.{◌≡◌}
use Rattle.counts.specs.OneOutcome.{OneOutcome}
use Rattle.counts.proofs.OneOutcome.{by_equation}
use Rattle.type_str.specs.declared.TypeStr.{TypeStr}
use Rattle.dtype.specs.PlainBytes.{plain_bytes}
use Rattle.counts.specs.Number.{capped}
use Rattle.counts.specs.Counts.{as_bytes}
use Rattle.counts.specs.declared.Bytes.{Bytes}

pub held_bytes_one : (t : TypeStr) → OneOutcome {A = Bytes} (λ r. r ≡ as_bytes (capped (plain_bytes t)))
held_bytes_one t = by_equation (as_bytes (capped (plain_bytes t)))

pub held_sum_one : (a b : ℕ) → OneOutcome {A = Bytes} (λ r. r ≡ as_bytes (capped (a + b)))
held_sum_one a b = by_equation (as_bytes (capped (a + b)))

pub held_product_one : (a b : ℕ) → OneOutcome {A = Bytes} (λ r. r ≡ as_bytes (capped (a * b)))
held_product_one a b = by_equation (as_bytes (capped (a * b)))
