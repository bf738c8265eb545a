-- The walk over the members of a list or tuple, from left to right: what it has met, and what it has yet to meet.
use Rattle.refusal.specs.Answers.{answer}
use Rattle.std.specs.Prelude.{ℕ, ◌≡◌, List, Err, Result}
use Rattle.counts.specs.Outcome.{Outcome, refused, then, each}
use Rattle.record.specs.Dimensions.{dimensions}
use Rattle.literal_tokens.specs.Node.{Node, nodes}
use Rattle.literal_bytes.specs.Got.{Got, got, fault, deep, pos}
use Rattle.literal.specs.Forget.{forget_all}
use Rattle.literal_bytes.specs.declared.Parsed.TheVariants.{Value, Fault}
use Rattle.literal_bytes.specs.declared.Gap.{Gap}
use Rattle.literal_bytes.specs.declared.Gap.TheVariants.{Shut, Item, Stray}
use Rattle.shape_verdict.specs.declared.Outline.{Outline}
use Rattle.refusal.specs.declared.Refusal.{Refusal}
use Rattle.shape_verdict.specs.Outline.{extends}
use Rattle.shape_text.specs.declared.ShapeJudged.{ShapeJudged}

-- the dimensions of members
abbrev pub dimensions_of : List Node → Outcome (List ℕ)
dimensions_of ns = dimensions (forget_all (nodes ns))

-- the outline of the members that were read, after those of which v is the outline; 11 where there is no bracket
abbrev pub goes_on_to : Outcome Outline → Got (List Node) → Outcome Outline
goes_on_to v (got ns e) = then v (λ o. each (extends o) (dimensions_of ns))
goes_on_to v (fault p) = refused 11
goes_on_to v (deep p) = refused 11

-- the statement of a walk over members, after those of which v is the outline
pub record WalksMembers (v : Outcome Outline) (g : Got (List Node)) (r : ShapeJudged) : Type 0 where
  pub ends : r.ended ≡ pos g
  pub says : answer r.verdict ≡ goes_on_to v g

-- how a bracket ends at a gap with no member, where v is the verdict on its members
abbrev pub judged_shut : Gap → Result Outline Refusal → ShapeJudged
judged_shut (Shut e) v = record { ended = Value e; verdict = v }
judged_shut (Item p) v = record { ended = Fault p; verdict = Err Refusal.NotShape }
judged_shut (Stray p) v = record { ended = Fault p; verdict = Err Refusal.NotShape }
