-- The verdict on a value in a text, and the verdict where there is none.
use Rattle.refusal.specs.Answers.{answer}
use Prim.Native.Nat.{ℕ}
use mathlib.Core.Path.{◌≡◌, refl, sym, ap, subst, ◌∙◌}
use mathlib.Core.List.{List}
use Rattle.counts.specs.Outcome.{Outcome, refused, then, each}
use Rattle.literal_grammar.specs.Value.{Value}
use Rattle.record.specs.Descr.{descr_of}
use Rattle.literal_tokens.specs.Node.{Node}
use Rattle.literal_bytes.specs.Got.{Got, got, fault, deep, pos}
use Rattle.literal_bytes.specs.declared.Parsed as parsed
use Rattle.literal_bytes.specs.declared.Parsed.{Parsed}
use Rattle.literal.specs.Literal.{value}
use Rattle.literal_bytes.proofs.Ends.{Stops}
use Rattle.literal.proofs.Steps.{thing}
use Rattle.shape_text.specs.Answer.{value_or}
use Rattle.descr_totals.specs.Totals.{totals_of}
use Rattle.descr_totals.specs.declared.Totals.{Totals}
use Rattle.descr_field.specs.declared.DescrJudged.{DescrJudged}
use Rattle.descr.specs.Judges.{JudgesDescr, JudgesAt}

abbrev totals : Value → Outcome Totals
totals v = each totals_of (descr_of v)

none_says : (g : Got Node) → Stops (pos g) → refused 14 ≡ then (value_or 14 g) totals
none_says (got n e) st = absurd st
none_says (fault p) st = refl
none_says (deep p) st = refl

module _ (k : ℕ) (s : List ℕ) (at : ℕ) where
  pub judged_none : (j r : DescrJudged) → JudgesDescr k s at totals j → Stops j.ended → r.ended ≡ j.ended → answer r.verdict ≡ refused 14 → JudgesAt (value k s at) r
  judged_none j r w st he hv = record { ends = he ∙ w.ends; says = hv ∙ none_says (value k s at) (subst (λ (x : Parsed). Stops x) w.ends st) }

  pub judged_at : (r : DescrJudged) (e : ℕ) → JudgesDescr k s at totals r → r.ended ≡ parsed.Parsed.Value e → JudgesAt (value k s at) r
  judged_at r e w he =
      let t = thing (value k s at) e (sym he ∙ w.ends) in
      record { ends = w.ends; says = w.of_value t.0 e t.1 ∙ sym (ap (λ (g : Got Node). then (value_or 14 g) totals) t.1) }
