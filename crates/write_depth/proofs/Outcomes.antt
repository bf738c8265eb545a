-- No second outcome satisfies a statement of this crate's public functions: an answer is check_record's, and there is one first entry that is no array level.
use Rattle.refusal.specs.Answers.{answer}
use Prim.Native.Nat.{ℕ, ◌<◌, ◌≤◌}
use native.Mathlib.Omega.{arith}
use mathlib.Core.Path.{◌≡◌}
use mathlib.Core.Logic.{⊎_elim}
use mathlib.Core.List.{List}
use Rattle.counts.specs.Outcome.{each}
use Rattle.counts.specs.OneOutcome.{OneOutcome}
use Rattle.counts.proofs.Sides.{lt_or_ge}
use Rattle.dtype.specs.declared.Order.{Order}
use Rattle.check_record.specs.Answer.{summary}
use Rattle.check_record.proofs.Outcomes.{checked_one}
use Rattle.write_depth.specs.Listed.{Under}
use Rattle.write_depth.specs.Printable.{printable}

pub check_one : (t ns s : List ℕ) (o : Order) → OneOutcome (λ r. answer r ≡ each summary (printable t ns s o))
check_one t ns s o = checked_one (each summary (printable t ns s o))

pub innermost_one : (t : List ℕ) (e : ℕ) → OneOutcome {A = ℕ} (λ r. Under t e r)
innermost_one t e x y p q =
    ⊎_elim (λ (h : x < y). absurd (p.no_level (q.levelled x p.further h)))
    (λ (h : y ≤ x).
    ⊎_elim (λ (l : y < x). absurd (q.no_level (p.levelled y q.further l))) (λ (l : x ≤ y). omega arith) (lt_or_ge y x))
    (lt_or_ge x y)
