-- No second outcome satisfies the statements of this crate: an end is an equation, and what an answer or a verdict means determines it.
use Rattle.refusal.specs.Answers.{answer}
use Rattle.refusal.specs.declared.Refusal.{Refusal}
use Rattle.std.specs.Prelude.{Result}
use Prim.Native.Nat.{ℕ}
use mathlib.Core.Path.{◌≡◌, sym, ◌∙◌}
use mathlib.Core.List.{List}
use mathlib.Core.Bool.{Bool}
use Rattle.counts.specs.Outcome.{Outcome}
use Rattle.counts.specs.OneOutcome.{OneOutcome}
use Rattle.counts.proofs.OneOutcome.{by_equation}
use Rattle.type_str.specs.declared.TypeStr.{TypeStr}
use Rattle.type_str.proofs.Outcomes.{answer_one}
use Rattle.literal_bytes.specs.declared.Parsed.{Parsed}
use Rattle.literal_bytes.specs.Text.{byte_at, kind_of}
use Rattle.literal_bytes.specs.declared.Gap.{Gap}
use Rattle.shape_text.specs.Members.{closing_of}
use Rattle.descr_field.specs.declared.Typed.{Typed}
use Rattle.descr_field.specs.Begins.{is_string, gap_place}
use Rattle.literal_bytes.specs.Got.{pos}
use Rattle.literal_bytes.specs.declared.Gap.TheVariants.{Item}
use Rattle.descr_field.specs.After.{items_from, second_at}
use Rattle.descr_totals.specs.declared.Totals.{Totals}
use Rattle.descr_totals.proofs.Outcomes.{verdict_one}
use Rattle.descr_field.specs.declared.DescrJudged.{DescrJudged}

pub string_at_one : (s : List ℕ) (at : ℕ) → OneOutcome {A = Bool} (λ r. r ≡ is_string (kind_of (byte_at s at)))
string_at_one s at = by_equation (is_string (kind_of (byte_at s at)))

pub closing_at_one : (s : List ℕ) (at : ℕ) → OneOutcome {A = ℕ} (λ r. r ≡ closing_of (kind_of (byte_at s at)))
closing_at_one s at = by_equation (closing_of (kind_of (byte_at s at)))

pub place_of_one : (g : Gap) → OneOutcome {A = ℕ} (λ r. r ≡ gap_place g)
place_of_one g = by_equation (gap_place g)

typed_eq : {d e : Parsed} {u v : Result TypeStr Refusal} → d ≡ e → u ≡ v → ◌≡◌ {A = Typed} (record { ended = d; read = u }) (record { ended = e; read = v })
typed_eq he hv = cc

pub typed_at_one : (e : Parsed) (o : Outcome TypeStr) → OneOutcome {A = Typed} (λ r. (r.ended ≡ e) × (answer r.read ≡ o))
typed_at_one e o x y p q =
    typed_eq {d = x.ended} {e = y.ended} {u = x.read} {v = y.read} (p.0 ∙ sym q.0)
    (answer_one o x.read y.read p.1 q.1)

pub second_at_one : (s : List ℕ) (at close : ℕ) → OneOutcome {A = Gap} (λ r. r ≡ second_at s at close)
second_at_one s at close = by_equation (second_at s at close)

pub rest_one : (k : ℕ) (s : List ℕ) (close from : ℕ) → OneOutcome {A = Parsed} (λ r. r ≡ pos (items_from k s close (Item from)))
rest_one k s close from = by_equation (pos (items_from k s close (Item from)))

judged_eq : {d e : Parsed} {u v : Result Totals Refusal} → d ≡ e → u ≡ v → ◌≡◌ {A = DescrJudged} (record { ended = d; verdict = u }) (record { ended = e; verdict = v })
judged_eq he hv = cc

pub wrong_form_one : (e : Parsed) (v : Result Totals Refusal) → OneOutcome {A = DescrJudged} (λ r. (r.ended ≡ e) × (r.verdict ≡ v))
wrong_form_one e v x y p q = judged_eq {d = x.ended} {e = y.ended} {u = x.verdict} {v = y.verdict} (p.0 ∙ sym q.0) (p.1 ∙ sym q.1)

-- of `name_at` and `sub_shape`
pub judged_one : (e : Parsed) (o : Outcome Totals) → OneOutcome {A = DescrJudged} (λ r. (r.ended ≡ e) × (answer r.verdict ≡ o))
judged_one e o x y p q =
    judged_eq {d = x.ended} {e = y.ended} {u = x.verdict} {v = y.verdict} (p.0 ∙ sym q.0)
    (verdict_one o x.verdict y.verdict p.1 q.1)
