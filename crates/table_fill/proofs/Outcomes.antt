-- No second outcome satisfies a statement of this crate's public functions: what is written and what is returned are equations.
use Rattle.refusal.specs.declared.Refusal.{Refusal}
use Rattle.std.specs.Prelude.{Result}
use Prim.Native.Nat.{ℕ, ◌-◌}
use mathlib.Core.Path.{◌≡◌, sym, ◌∙◌}
use mathlib.Core.List.{List}
use Rattle.counts.specs.OneOutcome.{OneOutcome}
use Rattle.counts.proofs.OneOutcome.{by_equation, pair_of}
use Rattle.table_fill.specs.Lifted.{lifted}
use Rattle.type_str.specs.declared.TypeStr.{TypeStr}
use Rattle.dtype.specs.Dtype.{plain, size_of}
use Rattle.counts.specs.Number.{capped}
use Rattle.counts.specs.Counts.{as_bytes}
use Rattle.counts.specs.declared.Bytes.{Bytes}
use Rattle.dtype.specs.EntryOf.{entry_of}
use Rattle.table_fill.specs.Written.{type_in, put, bare, size_over, above}

pub lift_one : (table : List ℕ) (entry count by : ℕ) → OneOutcome {A = List ℕ} (λ l. l ≡ lifted table entry count by)
lift_one table entry count by = by_equation (lifted table entry count by)

pub entries_between_one : (at stop : ℕ) → OneOutcome {A = ℕ} (λ r. r ≡ stop - at)
entries_between_one at stop = by_equation (stop - at)

pub type_in_one : (r : Result TypeStr Refusal) → OneOutcome {A = TypeStr} (λ t. t ≡ type_in r)
type_in_one r = by_equation (type_in r)

-- an outcome is the result and the final table
two_one : (n : Bytes) (l : List ℕ) → OneOutcome {A = Bytes × List ℕ} (λ r. (r.0 ≡ n) × (r.1 ≡ l))
two_one n l x y p q = pair_of {a = x.0} {a' = y.0} {b = x.1} {b' = y.1} (p.0 ∙ sym q.0) (p.1 ∙ sym q.1)

pub put_plain_one : (table : List ℕ) (at : ℕ) (t : TypeStr) (up m : ℕ) → OneOutcome {A = Bytes × List ℕ} (λ r. (r.0 ≡ as_bytes (capped (size_of (plain t)))) × (r.1 ≡ put table at (entry_of (plain t) up m)))
put_plain_one table at t up m = two_one (as_bytes (capped (size_of (plain t)))) (put table at (entry_of (plain t) up m))

pub put_record_one : (table : List ℕ) (at up m count last size : ℕ) → OneOutcome {A = List ℕ} (λ l. l ≡ put table at (bare 2 up count (last - at) size m))
put_record_one table at up m count last size = by_equation (put table at (bare 2 up count (last - at) size m))

pub put_sub_shape_one : (ns : List ℕ) (entry up m last size : ℕ) (table : List ℕ)
    → OneOutcome {A = Bytes × List ℕ} (λ r. (r.0 ≡ as_bytes (size_over ns size)) × (r.1 ≡ above ns entry up m last size table))
put_sub_shape_one ns entry up m last size table = two_one (as_bytes (size_over ns size)) (above ns entry up m last size table)
