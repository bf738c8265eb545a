-- No second outcome satisfies a statement of this crate's public functions: an equation, or a test, which is fixed by what it decides.
use Prim.Native.Nat.{ℕ, ◌<◌}
use mathlib.Core.Path.{refl, sym, ◌≡◌}
use mathlib.Core.Bool.{Bool, true, false, not}
use mathlib.Core.List.{List}
use Rattle.counts.specs.OneOutcome.{OneOutcome}
use Rattle.check_table.specs.Decides.{Decides, SoundEntry, refuses}
use Rattle.counts.proofs.OneOutcome.{by_equation}
use Rattle.check_table.specs.Reading.{read_dtype}

decides_one : {P : Type 0} → OneOutcome {A = Bool} (λ r. Decides r P)
decides_one true true d d' = refl
decides_one true false d d' = sym (d'.all (d.only refl))
decides_one false true d d' = d.all (d'.only refl)
decides_one false false d d' = refl

pub entries_agree_one : (t : List ℕ) (n : ℕ) → OneOutcome {A = Bool} (λ r. Decides r ((e : ℕ) → e < n → SoundEntry t n e))
entries_agree_one t n = decides_one

pub is_dtype_one : (t ns : List ℕ) → OneOutcome {A = Bool} (λ r. r ≡ not (refuses (read_dtype t ns)))
is_dtype_one t ns = by_equation (not (refuses (read_dtype t ns)))
