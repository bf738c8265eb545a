-- No second outcome satisfies a statement of this crate's public functions. `put` states `Emits`, so `Emits-one` of crate emit applies.
use Rattle.std.specs.Prelude.{Option}
use mathlib.Core.Path.{◌≡◌}
use mathlib.Core.List.{List}
use Prim.Native.Nat.{ℕ}
use Rattle.counts.specs.Number.{number}
use Rattle.counts.specs.OneOutcome.{OneOutcome}
use Rattle.counts.proofs.OneOutcome.{by_equation}
use Rattle.number_bytes.specs.Numbers.{in_order}
use Rattle.type_letters.specs.declared.Endianness.{Endianness}

pub read_one : (run : List ℕ) (order : Endianness) → OneOutcome {A = Option ℕ} (λ r. r ≡ number (in_order order run))
read_one run order = by_equation (number (in_order order run))
