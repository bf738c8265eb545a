-- Document 01, "The refusal numbers": 27, "caller's record or type that no reading gives (13, 20 to 22, 7, 4 aside), or outermost an array", and "Places: the given record's 27,
-- 13, 20, 21, 22". As a relation between a caller's table, names, shape and order and a record. `checked_record` (Checked.antt) gives the record, or the first of these
-- numbers; that it gives exactly the valid ones is proofs/Accepts.antt. That each number of a table and a
-- shape is at most 2^64-1 is `Small` (record/specs/Sound.antt), and holds of every lent slice.
use Rattle.std.specs.Prelude.{ℕ, ◌≡◌, false, List}
use Rattle.counts.specs.Outcome.{gives}
use Rattle.dtype.specs.declared.Order.{Order}
use Rattle.dtype.specs.Dtype.{Dtype}
use Rattle.dtype.specs.Record.{Record, table, names}
use Rattle.dtype.specs.Limits.{limited}
use Rattle.check_table.specs.Reading.{Readable, is_array}

-- a record by its parts
abbrev pub made : Dtype → List ℕ → Order → Record
made d s o = record { dtype = d; shape = s; order = o }

-- a caller's table, names, shape and order are those of the record r, which is valid
pub record Valid (t ns s : List ℕ) (o : Order) (r : Record) : Type 0 where
  pub table_is : t ≡ table r.dtype
  pub names_are : ns ≡ names r.dtype
  pub shape_is : s ≡ r.shape
  pub order_is : o ≡ r.order
  pub no_array : is_array r.dtype ≡ false
  pub readable : Readable r.dtype
  pub limits : limited r ≡ gives r
