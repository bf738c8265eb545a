-- What each answer of this crate means: document 01's number; or the item size, of the dtype, and the summary, of the record. Document 01, "The record": "With an `O`
-- anywhere there is no item size." No two answers mean the same (proofs/Outcomes.antt).
use Rattle.counts.specs.declared.Bytes.{Bytes}
use Rattle.std.specs.Prelude.{ℕ, cond, List, length, None, Some, Option}
use Rattle.dtype.specs.Dtype.{Dtype, size_of}
use Rattle.dtype.specs.Entries.{entries_of, has_object}
use Rattle.dtype.specs.Shape.{product}
use Rattle.dtype.specs.Record.{Record}
use Rattle.check_record.specs.declared.Summary.{Summary}

-- "With an `O` anywhere there is no item size."
abbrev pub item_size : Dtype → Option Bytes
item_size d = cond (has_object d) None (Some (record { 0 = size_of d }))

-- what a record has, by its parts
abbrev pub summary_of : (entries : ℕ) → Option Bytes → (shape : List ℕ) → (count : ℕ) → Summary
summary_of n z s c = record { rank = length s; entries = n; size = z; count = record { 0 = c } }

-- what a record has
unfoldable pub summary : Record → Summary
summary r = summary_of (entries_of r.dtype) (item_size r.dtype) r.shape (product r.shape)
