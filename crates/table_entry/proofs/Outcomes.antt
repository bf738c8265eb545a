-- No second outcome satisfies a statement of this crate's public functions. Each result can be recovered from its outcome.
use Rattle.std.specs.Prelude.{None, Some, Option}
use Prim.Native.Nat.{ℕ}
use mathlib.Core.Path.{◌≡◌, refl}
use mathlib.Core.List.{List}
use Rattle.counts.specs.Outcome.{Outcome, gives, refused}
use Rattle.counts.specs.OneOutcome.{OneOutcome}
use Rattle.counts.proofs.OneOutcome.{by_equation, by_inverse}
use Rattle.type_str.specs.declared.TypeStr.{TypeStr}
use Rattle.dtype.specs.declared.Entry.{Entry}
use Rattle.dtype.specs.Agrees.{entry_at}
use Rattle.table_entry.specs.EntryType.{type_of}
use Rattle.table_entry.specs.Answer.{type_answer}
use Rattle.type_units.specs.declared.TimeUnits.{TimeUnits}
use Rattle.dtype.specs.TypeNumbers.{units_number}
use Rattle.dtype.specs.Dtype.{plain}
use Rattle.dtype.specs.EntryOf.{entry_of}

type_back : Outcome TypeStr → Option TypeStr
type_back (gives t) = Some t
type_back (refused n) = None

type_same : (r : Option TypeStr) → type_back (type_answer r) ≡ r
unfolding type_back
type_same (Some t) = refl
type_same None = refl

pub entry_at_one : (t : List ℕ) (e : ℕ) → OneOutcome {A = Entry} (λ r. r ≡ entry_at t e)
entry_at_one t e = by_equation (entry_at t e)

pub type_of_one : (e : Entry) → OneOutcome (λ r. type_answer r ≡ type_of e)
type_of_one e = by_inverse type_answer type_back type_same (type_of e)

pub plain_entry_one : (t : TypeStr) (up m : ℕ) → OneOutcome {A = Entry} (λ r. r ≡ entry_of (plain t) up m)
plain_entry_one t up m = by_equation (entry_of (plain t) up m)

pub units_number_one : (u : TimeUnits) → OneOutcome {A = ℕ} (λ n. n ≡ units_number u)
units_number_one u = by_equation (units_number u)
