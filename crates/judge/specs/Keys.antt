-- The statements of the walk over a header's dict, and of the judgement by its keys. Document 01, "The refusal numbers", the order of reading: "8; `fortran_order` (9, 10);
-- `shape` (9, 11 or 12 at the first bad member, 13); `descr` (9; ..); then 13 for sub-shapes, 20, 21, 22". What a name and a declared order mean is crate judge_names'. No public
-- function's statement has these.
use Rattle.judge.specs.declared.FoundRecord.{FoundRecord}
use Rattle.refusal.specs.declared.Refusal.{Refusal}
use Rattle.dtype.specs.declared.Order.{Order}
use Rattle.std.specs.Prelude.{ℕ, ◌≡◌, List, Bool, true, false, Result}
use Rattle.counts.specs.Outcome.{Outcome, gives, refused, then}
use Rattle.record.specs.Parts.{string_or}
use Rattle.record.specs.Dict.{key_order, key_shape, key_descr, is_the, all_strings}
use Rattle.record.specs.FromValue.{record_of_value}
use Rattle.literal_tokens.specs.Node.{Node, Pair, pairs}
use Rattle.literal_bytes.specs.Got.{Got, got, pos}
use Rattle.literal.specs.Forget.{forget, forget_pairs}
use Rattle.literal.specs.Brackets.{key_by}
use Rattle.literal_grammar.specs.Value.{most_open}
use Rattle.literal.specs.Literal.{value}
use Rattle.shape_text.specs.Answer.{value_or}
use Rattle.judge_names.specs.declared.Name.{Name}
use Rattle.judge_names.specs.Answer.{key_of, NameIs, OrderIs}
use Rattle.judge.specs.declared.keys.Key.{Key}
use Rattle.judge.specs.declared.keys.Walked.{Walked}
use Rattle.judge.specs.Pairs.{last_in, node_for, keyed_at}
use Rattle.judge.specs.Found.{ShapeFoundIs, DescrFoundIs}
use Rattle.judge.specs.Judged.{inside, JudgedIs}

-- what was found for the three keys, by whether all keys are strings and which value each has
pub record KeysAt (k : ℕ) (s : List ℕ) (r : Walked) (strings : Bool) (node : List ℕ → Outcome Node) : Type 0 where
  pub of_strings : r.strings ≡ strings
  pub of_descr : DescrFoundIs k s r.descr (node key_descr)
  pub of_order : OrderIs r.order (node key_order)
  pub of_shape : ShapeFoundIs k s r.shape (node key_shape)

-- the same for the value at a position
abbrev pub KeysIn : (text : List ℕ) (at : ℕ) → Walked → Type 0
KeysIn text at r = KeysAt inside text r (keyed_at (value most_open text at)) (λ w. node_for w (value most_open text at))

-- the walk over that value: how it ended, and its keys where it is one
pub record WalksKeys (s : List ℕ) (at : ℕ) (r : Walked) : Type 0 where
  pub ended : r.ended ≡ pos (value most_open s at)
  pub keys : (n : Node) (e : ℕ) → value most_open s at ≡ got n e → KeysIn s at r

-- the walk over the pairs up to the brace
pub record WalkedOf (k : ℕ) (s : List ℕ) (r : Walked) (g : Got (List Pair)) : Type 0 where
  pub ended : r.ended ≡ pos g
  pub keys : (ps : List Pair) (e : ℕ) → g ≡ got ps e → KeysAt k s r (all_strings (forget_pairs (pairs ps))) (λ w. last_in w (refused 9) (pairs ps))

-- the name of the key at a position, whichever value is there
abbrev pub NameAt : List ℕ → ℕ → Name → Type 0
NameAt s at r = (k : ℕ) (n : Node) (e : ℕ) → value k s at ≡ got n e → NameIs r (string_or 8 (forget n))

-- what a key is, and where its value begins
pub record KeyIs (k : ℕ) (s : List ℕ) (at : ℕ) (r : Key) : Type 0 where
  pub begins : r.begins ≡ pos (key_by (value k s) s at)
  pub named : NameAt s at r.name

-- what one more pair changes, and what it leaves
abbrev pub Takes : Bool → Type 0 → Type 0 → Type 0
Takes true A B = A
Takes false A B = B

-- the order after one more pair of this name, whichever value is at the position
abbrev pub OrderTaken : List ℕ → ℕ → Name → Result Order Refusal → Result Order Refusal → Type 0
OrderTaken s at name was r = (k : ℕ) (n : Node) (e : ℕ) → value k s at ≡ got n e → Takes (is_the key_order (key_of name)) (OrderIs r (gives n)) (r ≡ was)

-- the record by the keys, whichever text they were found in
abbrev pub KeysOf : Walked → Result FoundRecord Refusal → Type 0
KeysOf x r = (text : List ℕ) (at : ℕ) → KeysIn text at x → JudgedIs text at r (then (value_or 8 (value most_open text at)) record_of_value)
