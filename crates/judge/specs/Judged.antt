-- What an answer of `judge` means: document 01's number, or the record, of which the answer gives the places of its parts in the text. The record of a text is `record_in` of
-- crate record, with the literal's own reading.
use Rattle.refusal.specs.declared.Refusal.{Refusal}
use Rattle.std.specs.Prelude.{ℕ, ◌-◌, ◌≡◌, List, false, Err, Ok, Result}
use Rattle.counts.specs.Outcome.{Outcome, gives, refused}
use Rattle.refusal.specs.Numbers.{number_of}
use Rattle.dtype.specs.Dtype.{Dtype}
use Rattle.dtype.specs.Record.{Record}
use Rattle.dtype.specs.Limits.{over_dimensions, limited}
use Rattle.record.specs.Dict.{key_shape, key_descr}
use Rattle.record.specs.Dimensions.{sub_shape}
use Rattle.record.specs.Descr.{descr_of}
use Rattle.record.specs.Header.{Reading}
use Rattle.literal_tokens.specs.Node.{Node}
use Rattle.literal_bytes.specs.Got.{got}
use Rattle.literal.specs.Forget.{forget, forgot}
use Rattle.literal_grammar.specs.Value.{most_open}
use Rattle.literal.specs.Literal.{value, literal_of}
use Rattle.shape_verdict.specs.Outline.{outline_of}
use Rattle.judge.specs.Pairs.{node_for}
use Rattle.descr_totals.specs.Totals.{totals_of}
use Rattle.judge.specs.declared.Shape.{Shape}
use Rattle.judge.specs.declared.Descr.{Descr}
use Rattle.judge.specs.declared.FoundRecord.{FoundRecord}

-- the literal's own reading; it keeps the promise of crate literal_grammar (proofs/Top.antt)
abbrev pub reading : Reading
reading s = forgot (literal_of s)

-- how many brackets may open inside the dict
abbrev pub inside : ℕ
inside = most_open - 1

-- the place is that of the value that counts for the key w in the dict at `at`
pub record Counts (text : List ℕ) (at : ℕ) (w : List ℕ) (place : ℕ) : Type 0 where
  pub node : Node
  pub end : ℕ
  pub found : node_for w (value most_open text at) ≡ gives node
  pub there : value inside text place ≡ got node end

-- the shape s is at the place, and has this outline
pub record ShapeOf (text : List ℕ) (at : ℕ) (p : Shape) (s : List ℕ) : Type 0 where
  pub counts : Counts text at key_shape p.at
  pub is : sub_shape (forget counts.node) ≡ gives s
  pub few : over_dimensions s ≡ false
  pub outlined : p.outline ≡ outline_of s

-- the dtype d is at the place, and has these totals
pub record DescrOf (text : List ℕ) (at : ℕ) (p : Descr) (d : Dtype) : Type 0 where
  pub counts : Counts text at key_descr p.at
  pub is : descr_of (forget counts.node) ≡ gives d
  pub totalled : p.totals ≡ totals_of d

pub record PlanOf (text : List ℕ) (at : ℕ) (p : FoundRecord) (r : Record) : Type 0 where
  pub ordered : p.order ≡ r.order
  pub shaped : ShapeOf text at p.shape r.shape
  pub typed : DescrOf text at p.descr r.dtype
  pub within : limited r ≡ gives r

-- the answer for a text whose value begins at `at`: the plan of the record, or the refusal's own number
abbrev pub JudgedIs : (text : List ℕ) (at : ℕ) → Result FoundRecord Refusal → Outcome Record → Type 0
JudgedIs text at (Ok p) (gives r) = PlanOf text at p r
JudgedIs text at (Ok p) (refused n) = ⊥
JudgedIs text at (Err f) (gives r) = ⊥
JudgedIs text at (Err f) (refused n) = number_of f ≡ n
