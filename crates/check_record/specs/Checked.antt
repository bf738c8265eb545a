-- Document 01, "The refusal numbers": "Places: the given record's 27, 13, 20, 21, 22". A caller's record is a table, names, a shape and an order. Their
-- dtype, or 27, is `read_dtype` (check_table/specs/Reading.antt), and 13, 20, 21, 22 are `limited` (dtype/specs/Limits.antt).
use Rattle.std.specs.Prelude.{ℕ, List}
use Rattle.counts.specs.Outcome.{Outcome, then}
use Rattle.dtype.specs.declared.Order.{Order}
use Rattle.dtype.specs.Record.{Record}
use Rattle.dtype.specs.Limits.{limited}
use Rattle.check_table.specs.Reading.{read_dtype}

-- a caller's record, or the first of 27, 13, 20, 21, 22 that applies
unfoldable pub checked_record : (table names shape : List ℕ) → Order → Outcome Record
checked_record t ns s o = then (read_dtype t ns) (λ d. limited (record { dtype = d; shape = s; order = o }))
