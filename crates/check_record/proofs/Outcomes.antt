-- No second outcome meets the contracts of this crate.
use Rattle.refusal.specs.Answers.{answer}
use Prim.Native.Nat.{ℕ}
use mathlib.Core.Path.{◌≡◌}
use mathlib.Core.List.{List}
use Rattle.counts.specs.Outcome.{Outcome, each}
use Rattle.counts.specs.OneOutcome.{OneOutcome}
use Rattle.dtype.specs.declared.Order.{Order}
use Rattle.refusal.proofs.Answers.{whole_one}
use Rattle.check_record.specs.Limited.{limited_dtype}
use Rattle.check_record.specs.Checked.{checked_record}
use Rattle.check_record.specs.Answer.{item_size, summary}
use Rattle.check_record.specs.declared.Summary.{Summary}

pub check_dtype_one : (t ns s : List ℕ) → OneOutcome (λ r. answer r ≡ each item_size (limited_dtype t ns s))
check_dtype_one t ns s = whole_one (each item_size (limited_dtype t ns s))

-- of every function that answers what this crate's check answers
pub checked_one : (o : Outcome Summary) → OneOutcome (λ r. answer r ≡ o)
checked_one o = whole_one o

pub check_one : (t ns s : List ℕ) (o : Order) → OneOutcome (λ r. answer r ≡ each summary (checked_record t ns s o))
check_one t ns s o = checked_one (each summary (checked_record t ns s o))
