-- No second outcome satisfies a statement of this crate's public functions.
use Prim.Native.Nat.{ℕ, ◌*◌}
use mathlib.Core.Path.{◌≡◌}
use mathlib.Core.List.{List}
use lib.ListN.{take}
use Rattle.counts.specs.OneOutcome.{OneOutcome}
use Rattle.counts.proofs.OneOutcome.{by_equation}
use Rattle.dtype.specs.Record.{entry_width}

pub table_of_one : (table : List ℕ) (entries : ℕ) → OneOutcome {A = List ℕ} (λ r. r ≡ take (entry_width * entries) table)
table_of_one table entries = by_equation (take (entry_width * entries) table)

pub names_of_one : (names : List ℕ) (bytes : ℕ) → OneOutcome {A = List ℕ} (λ r. r ≡ take bytes names)
names_of_one names bytes = by_equation (take bytes names)

pub shape_of_one : (shape : List ℕ) (rank : ℕ) → OneOutcome {A = List ℕ} (λ r. r ≡ take rank shape)
shape_of_one shape rank = by_equation (take rank shape)
