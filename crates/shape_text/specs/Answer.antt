-- The statement of `judge`. What a verdict means is specs/Answer.antt of shape_verdict. What a value gives is defined in crate record; where there is no value, the verdict is
-- as for a value of another kind, beside the fault (6 or 7) and its place.
use Rattle.refusal.specs.Answers.{answer}
use Rattle.std.specs.Prelude.{ℕ, ◌≡◌, List}
use Rattle.counts.specs.Outcome.{Outcome, gives, refused, then, each}
use Rattle.literal_grammar.specs.Value.{Value}
use Rattle.record.specs.Dimensions.{sub_shape}
use Rattle.literal_tokens.specs.Node.{Node}
use Rattle.literal_bytes.specs.Got.{Got, got, fault, deep, pos}
use Rattle.literal.specs.Forget.{forget}
use Rattle.shape_verdict.specs.Outline.{outline_of}
use Rattle.shape_text.specs.declared.ShapeJudged.{ShapeJudged}

-- the value that was read, or refused with n
abbrev pub value_or : ℕ → Got Node → Outcome Value
value_or n (got v e) = gives (forget v)
value_or n (fault p) = refused n
value_or n (deep p) = refused n

-- the dimensions of what was read
abbrev pub dimensions_at : Got Node → Outcome (List ℕ)
dimensions_at g = then (value_or 11 g) sub_shape

-- of what was read at the position: how its text ends, and the outline of its dimensions
pub record JudgesShape (g : Got Node) (r : ShapeJudged) : Type 0 where
  pub ends : r.ended ≡ pos g
  pub says : answer r.verdict ≡ each outline_of (dimensions_at g)
