-- No second outcome meets the contracts of this crate.
use Rattle.refusal.specs.Answers.{answer}
use Rattle.refusal.specs.declared.Refusal.{Refusal}
use Rattle.counts.specs.declared.Bytes.{Bytes}
use Rattle.std.specs.Prelude.{Option, Result}
use Prim.Native.Nat.{ℕ}
use mathlib.Core.Path.{◌≡◌, sym, ◌∙◌}
use mathlib.Core.Bool.{Bool, true, false}
use Rattle.counts.specs.Outcome.{Outcome}
use Rattle.counts.specs.OneOutcome.{OneOutcome}
use Rattle.counts.proofs.OneOutcome.{by_equation}
use Rattle.counts.specs.Number.{number}
use Rattle.refusal.proofs.Answers.{whole_one}
use Rattle.dtype.specs.declared.Order.{Order}
use Rattle.record.specs.Dimensions.{signed}
use Rattle.shape_verdict.specs.declared.Outline.{Outline}
use Rattle.shape_verdict.specs.Outline.{largest_in, over_in}
use Rattle.shape_verdict.specs.Signs.{positive_of, negative_of}

-- what a verdict means determines it
pub joined_one : (o : Outcome Outline) → OneOutcome {A = Result Outline Refusal} (λ v. answer v ≡ o)
joined_one o = whole_one o

pub over_one : (o : Order) (shape : Outline) → OneOutcome {A = Bool} (λ r. r ≡ over_in o shape)
over_one o shape = by_equation (over_in o shape)

pub largest_one : (levels : Outline) (size : ℕ) → OneOutcome {A = Option Bytes} (λ r. r ≡ largest_in levels size)
largest_one levels size = by_equation (largest_in levels size)

pub positive_one : (n : Option ℕ) → OneOutcome {A = Result ℕ Refusal} (λ r. ((m : ℕ) → n ≡ number m → answer r ≡ signed false m) × (r ≡ positive_of n))
positive_one n x y a b = a.1 ∙ sym b.1

pub negative_one : (n : Option ℕ) → OneOutcome {A = Result ℕ Refusal} (λ r. ((m : ℕ) → n ≡ number m → answer r ≡ signed true m) × (r ≡ negative_of n))
negative_one n x y a b = a.1 ∙ sym b.1
