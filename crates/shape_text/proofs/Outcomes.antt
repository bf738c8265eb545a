-- No second outcome meets the contracts of this crate.
use Rattle.refusal.specs.Answers.{answer}
use Rattle.shape_verdict.specs.declared.Outline.{Outline}
use Rattle.refusal.specs.declared.Refusal.{Refusal}
use Rattle.std.specs.Prelude.{Result}
use Prim.Native.Nat.{ℕ}
use mathlib.Core.Path.{◌≡◌, refl, sym, ◌∙◌}
use mathlib.Core.List.{List}
use Rattle.counts.specs.OneOutcome.{OneOutcome}
use Rattle.counts.proofs.OneOutcome.{by_equation}
use Rattle.literal_tokens.specs.Node.{Node}
use Rattle.literal_bytes.specs.Got.{Got}
use Rattle.literal_bytes.specs.declared.Parsed.{Parsed}
use Rattle.literal_bytes.specs.declared.ValueKind.{ValueKind}
use Rattle.literal_bytes.specs.declared.Gap.{Gap}
use Rattle.shape_verdict.proofs.Outcomes.{joined_one}
use Rattle.shape_text.specs.declared.Item.{Item}
use Rattle.shape_text.specs.declared.ShapeJudged.{ShapeJudged}
use Rattle.shape_text.specs.declared.DimsStored.{DimsStored}
use Rattle.shape_text.specs.Members.{closing_of, SizeAt, member_at}
use Rattle.shape_text.specs.Answer.{JudgesShape}
use Rattle.shape_text.specs.Fill.{Stored}

pub closing_one : (k : ValueKind) → OneOutcome {A = ℕ} (λ r. r ≡ closing_of k)
closing_one k = by_equation (closing_of k)

item_eq : {d e : Parsed} {u v : Result ℕ Refusal} → d ≡ e → u ≡ v → ◌≡◌ {A = Item} (record { ended = d; size = u }) (record { ended = e; size = v })
item_eq he hv = cc

pub member_at_one : (e : Parsed) (s : List ℕ) (at : ℕ) → OneOutcome {A = Item} (λ r. (r.ended ≡ e) × (SizeAt s at r.size × (r.size ≡ member_at s at)))
member_at_one e s at x y p q = item_eq {d = x.ended} {e = y.ended} {u = x.size} {v = y.size} (p.0 ∙ sym q.0) (p.1.1 ∙ sym q.1.1)

judged_eq : {e e' : Parsed} {v v' : Result Outline Refusal} → e ≡ e' → v ≡ v' → ◌≡◌ {A = ShapeJudged} (record { ended = e; verdict = v }) (record { ended = e'; verdict = v' })
judged_eq he hv = cc

pub judge_one : (g : Got Node) → OneOutcome (JudgesShape g)
judge_one g x y p q =
    judged_eq {e = x.ended} {e' = y.ended} {v = x.verdict} {v' = y.verdict} (p.ends ∙ sym q.ends)
    (joined_one (answer y.verdict) x.verdict y.verdict (p.says ∙ sym q.says) refl)

filled_eq : {n m : ℕ} {g h : Gap} {a b : List ℕ} → n ≡ m → g ≡ h → a ≡ b → ◌≡◌ {A = DimsStored × List ℕ} (record { rank = n; stop = g }, a) (record { rank = m; stop = h }, b)
filled_eq hn hg ha = cc

-- an outcome of `fill` is its answer and what `out` then holds
pub fill_one : (ns : List ℕ) (g : Gap) (out : List ℕ) → OneOutcome {A = DimsStored × List ℕ} (λ r. Stored ns g out r.0 r.1)
fill_one ns g out x y p q = filled_eq {n = x.0.rank} {m = y.0.rank} {g = x.0.stop} {h = y.0.stop} (p.counted ∙ sym q.counted) (p.stopped ∙ sym q.stopped) (p.out_after ∙ sym q.out_after)
