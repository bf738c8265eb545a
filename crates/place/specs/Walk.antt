-- A path followed in a table, as the code does it: what one number of the path leads to, and what the whole path leads to. proofs/Walks.antt shows that this is what
-- dtype/specs/Places.antt says.
use Rattle.refusal.specs.declared.Refusal.{Refusal}
use Rattle.place_area.specs.declared.Run.{Run}
use Rattle.place.specs.declared.Reached.{Reached}
use Rattle.counts.specs.declared.Bytes.{Bytes}
use Rattle.std.specs.Prelude.{ℕ, ◌+◌, ◌*◌, ◌≡◌, false, List, ◌∷◌, drop, Err, None, Ok, Some, Option, Result}
use Rattle.counts.specs.Outcome.{gives, refused}
use Rattle.refusal.specs.Numbers.{number_of}
use Rattle.dtype.specs.Dtype.{Dtype}
use Rattle.dtype.specs.Entries.{entries_of}
use Rattle.dtype.specs.Record.{entry_width, flat}
use Rattle.dtype.specs.Limits.{some_over}
use Rattle.dtype.specs.PlainBytes.{plain_bytes}
use Rattle.dtype.specs.Shape.{product}
use Rattle.dtype.specs.declared.Order.{Order}
use Rattle.counts.specs.declared.Items.{Items}
use Rattle.check_record.specs.Valid.{made, Valid}
use Rattle.check_record.specs.Answer.{item_size}
use Rattle.dtype.specs.Places.{plain_at, offset}
use Rattle.dtype.specs.Leads.{Leads}

-- a table lists d from entry e on, and no entry of it is over
pub record ListedSized (t : List ℕ) (e : ℕ) (d : Dtype) : Type 0 where
  pub up : ℕ
  pub name : ℕ
  pub rest : List ℕ
  pub is : drop (entry_width * e) t ≡ flat d e up name rest
  pub none_over : some_over d ≡ false

-- what one number leads to, from d at entry e
abbrev pub Steps : (t : List ℕ) (e : ℕ) → Dtype → (i : ℕ) → Option Reached → Type 0
Steps t e d i (Some s) = Leads t d (e + entries_of d) i s.entry s.before.0
Steps t e d i None = (p : List ℕ) → plain_at d (i ∷ p) ≡ refused 26

-- what a path leads to: its type, the bytes of the item before it, and its own
abbrev pub Finds : Dtype → List ℕ → Result Run Refusal → Type 0
Finds d p (Ok r) = (plain_at d p ≡ gives r.kind) × (r.first.0 ≡ offset d p) × (r.len.0 ≡ plain_bytes r.kind)
Finds d p (Err why) = plain_at d p ≡ refused (number_of why)

-- what the check of a record has shown of it
pub record Accepted (t ns s : List ℕ) (o : Order) (d : Dtype) (size : Option Bytes) (count : Items) : Type 0 where
  pub valid : Valid t ns s o (made d s o)
  pub size_is : size ≡ item_size d
  pub count_is : count.0 ≡ product s
