-- No second outcome satisfies the statement of `judge`: what was read determines the end, and what a verdict means determines the verdict.
use Rattle.counts.specs.Outcome.{then, each}
use Rattle.counts.specs.OneOutcome.{OneOutcome}
use Rattle.record.specs.Descr.{descr_of}
use Rattle.literal_tokens.specs.Node.{Node}
use Rattle.literal_bytes.specs.Got.{Got, pos}
use Rattle.shape_text.specs.Answer.{value_or}
use Rattle.descr_totals.specs.Totals.{totals_of}
use Rattle.descr_field.specs.declared.DescrJudged.{DescrJudged}
use Rattle.descr_field.proofs.Outcomes.{judged_one}
use Rattle.descr.specs.Judges.{JudgesAt}

pub judge_one : (g : Got Node) → OneOutcome {A = DescrJudged} (λ r. JudgesAt g r)
judge_one g x y p q = judged_one (pos g) (then (value_or 14 g) (λ v. each totals_of (descr_of v))) x y (p.ends, p.says) (q.ends, q.says)
