-- No second outcome satisfies the statements of this crate: what a verdict means determines the verdict. So of `join`, `shaped` and `typed`; `named` is an equation.
use Rattle.refusal.specs.Answers.{answer}
use Rattle.refusal.specs.declared.Refusal.{Refusal}
use Rattle.std.specs.Prelude.{Result}
use Prim.Native.Nat.{ℕ}
use mathlib.Core.Path.{◌≡◌}
use Rattle.counts.specs.Outcome.{Outcome}
use Rattle.counts.specs.OneOutcome.{OneOutcome}
use Rattle.counts.proofs.OneOutcome.{by_equation}
use Rattle.refusal.proofs.Answers.{whole_one}
use Rattle.descr_totals.specs.declared.Totals.{Totals}
use Rattle.descr_totals.specs.Totals.{name_totals}

pub verdict_one : (o : Outcome Totals) → OneOutcome {A = Result Totals Refusal} (λ v. answer v ≡ o)
verdict_one o = whole_one o

pub named_one : (len : ℕ) → OneOutcome {A = Totals} (λ r. r ≡ name_totals len)
named_one len = by_equation (name_totals len)
