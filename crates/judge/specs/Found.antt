-- What is found for the keys `shape` and `descr`: the value and its place, or why it is refused, 9 where the key is missing.
use Rattle.refusal.specs.Answers.{answer}
use Rattle.refusal.specs.declared.Refusal.{Refusal}
use Rattle.std.specs.Prelude.{ℕ, ◌≡◌, List, Result}
use Rattle.counts.specs.Outcome.{Outcome, gives, then, each}
use Rattle.literal_grammar.specs.Value.{Value}
use Rattle.record.specs.Dimensions.{shape_of}
use Rattle.record.specs.Descr.{descr_of}
use Rattle.literal_tokens.specs.Node.{Node}
use Rattle.literal_bytes.specs.Got.{got}
use Rattle.literal.specs.Forget.{forget}
use Rattle.literal.specs.Literal.{value}
use Rattle.shape_verdict.specs.Outline.{outline_of}
use Rattle.shape_verdict.specs.declared.Outline.{Outline}
use Rattle.descr_totals.specs.Totals.{totals_of}
use Rattle.descr_totals.specs.declared.Totals.{Totals}
use Rattle.judge_limits.specs.Answer.{rank_limit}
use Rattle.judge.specs.declared.Shape.{Shape}
use Rattle.judge.specs.declared.Descr.{Descr}

-- what is kept of a shape and of a dtype at a place
abbrev pub placed_shape : ℕ → Outline → Shape
placed_shape at o = record { at = at; outline = o }

abbrev pub placed_descr : ℕ → Totals → Descr
placed_descr at t = record { at = at; totals = t }

-- and 13 of the shape
abbrev pub ranked_at : ℕ → Outline → Outcome Shape
ranked_at at o = each (λ u. placed_shape at o) (rank_limit o)

-- the answer for a key, by the value that it has: that value is at the place, where k brackets more may open, `of` reads it, and `kept` of what is read is kept
pub record FoundIs {A B : Type 0} (of : Value → Outcome A) (kept : ℕ → A → B) (k : ℕ) (s : List ℕ) (answer : Outcome B) (o : Outcome Node) : Type 0 where
  pub place : ℕ
  pub there : (n : Node) → o ≡ gives n → (e : ℕ) × (value k s place ≡ got n e)
  pub says : answer ≡ each (kept place) (then o (λ n. of (forget n)))

abbrev pub ShapeFoundIs : ℕ → List ℕ → Result Shape Refusal → Outcome Node → Type 0
ShapeFoundIs k s f o = FoundIs shape_of (λ at ds. placed_shape at (outline_of ds)) k s (answer f) o

abbrev pub DescrFoundIs : ℕ → List ℕ → Result Descr Refusal → Outcome Node → Type 0
DescrFoundIs k s f o = FoundIs descr_of (λ at d. placed_descr at (totals_of d)) k s (answer f) o
