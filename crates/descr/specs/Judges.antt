-- The statements of a walk over a value, and over the items of a bracket: how they end, as crate literal reads them, and the verdict on whichever value or items are there, by
-- the definitions of crate record.
use Rattle.refusal.specs.Answers.{answer}
use Rattle.std.specs.Prelude.{ℕ, ◌+◌, ◌≡◌, List}
use Rattle.counts.specs.Outcome.{Outcome, then, each}
use Rattle.literal_grammar.specs.Value.{Value, Values}
use Rattle.type_str.specs.TypeString.{type_string}
use Rattle.dtype.specs.Dtype.{plain}
use Rattle.record.specs.Descr.{descr_of}
use Rattle.literal_tokens.specs.Node.{Node, nodes}
use Rattle.literal_bytes.specs.Got.{Got, got, pos}
use Rattle.literal_bytes.specs.Text.{byte_at}
use Rattle.literal_escapes.specs.Strings.{spelled}
use Rattle.literal.specs.Literal.{value}
use Rattle.literal.specs.Rows.{RowOf}
use Rattle.literal.specs.Forget.{forget, forget_all}
use Rattle.literal_bytes.specs.declared.Gap.{Gap}
use Rattle.descr_totals.specs.declared.Totals.{Totals}
use Rattle.shape_text.specs.Answer.{value_or}
use Rattle.descr_totals.specs.Totals.{totals_of}
use Rattle.descr_field.specs.After.{items_from}
use Rattle.descr_field.specs.declared.DescrJudged.{DescrJudged}

-- of what was read, as a descr. Where there is no value the verdict is as for one of another form
pub record JudgesAt (g : Got Node) (r : DescrJudged) : Type 0 where
  pub ends : r.ended ≡ pos g
  pub says : answer r.verdict ≡ then (value_or 14 g) (λ v. each totals_of (descr_of v))

-- of the value at `at`, where k brackets more may open
pub record JudgesDescr (k : ℕ) (s : List ℕ) (at : ℕ) (f : Value → Outcome Totals) (r : DescrJudged) : Type 0 where
  pub ends : r.ended ≡ pos (value k s at)
  pub of_value : (n : Node) (e : ℕ) → value k s at ≡ got n e → answer r.verdict ≡ f (forget n)

-- of the items from the gap on
pub record JudgesFrom (k : ℕ) (s : List ℕ) (close : ℕ) (g : Gap) (f : Values → Outcome Totals) (r : DescrJudged) : Type 0 where
  pub ends : r.ended ≡ pos (items_from k s close g)
  pub of_row : (ns : List Node) (e : ℕ) → RowOf (value k s) s close ns g e → answer r.verdict ≡ f (forget_all (nodes ns))

-- the string at `at`, as a type string
abbrev pub typed_at : List ℕ → ℕ → Outcome Totals
typed_at s at = each (λ t. totals_of (plain t)) (type_string (spelled (byte_at s at) s (at + 1)).bytes)
