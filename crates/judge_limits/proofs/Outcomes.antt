-- No second outcome meets the contracts of this crate.
use Rattle.refusal.specs.Answers.{answer}
use Rattle.refusal.specs.declared.Refusal.{Refusal}
use Rattle.std.specs.Prelude.{Err, Ok, Result}
use mathlib.Core.Path.{◌≡◌, refl, ap}
use Rattle.counts.specs.Outcome.{Outcome}
use Rattle.counts.specs.OneOutcome.{OneOutcome}
use Rattle.refusal.proofs.Names.{refusal_back}
use Rattle.refusal.proofs.Answers.{answer_for, answer_one}
use Rattle.dtype.specs.declared.Order.{Order}
use Rattle.shape_verdict.specs.declared.Outline.{Outline}
use Rattle.descr_totals.specs.declared.Totals.{Totals}
use Rattle.judge_limits.specs.Answer.{rank_limit, limits_of}

same : (x : Result Unit Refusal) → answer_for {B = Unit} (λ u. (Ok tt)) Err (answer x) ≡ x
same (Ok tt) = refl
same (Err why) = ap Err (refusal_back why)

limit_one : (o : Outcome Unit) → OneOutcome (λ r. answer r ≡ o)
limit_one o = answer_one answer (λ u. (Ok tt)) Err same o

pub ranked_one : (outline : Outline) → OneOutcome (λ r. answer r ≡ rank_limit outline)
ranked_one outline = limit_one (rank_limit outline)

pub within_one : (order : Order) (outline : Outline) (totals : Totals) → OneOutcome (λ r. answer r ≡ limits_of order outline totals)
within_one order outline totals = limit_one (limits_of order outline totals)
