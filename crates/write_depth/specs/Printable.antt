-- Which of a caller's records can be printed as a dict's text. Document 01, "The refusal numbers": "Writing a header: 27 (bad tree, type, order or UTF-8 name), 13, 20,
-- 21, 22, 7, 4, 28." The record's own refusals are check_record's, and 7 is asked as `writing` of record asks it; 4 and 28 are of the whole header, in write.
use Rattle.std.specs.Prelude.{ℕ, List}
use Rattle.counts.specs.Outcome.{Outcome, gives, then}
use Rattle.dtype.specs.declared.Order.{Order}
use Rattle.dtype.specs.Record.{Record}
use Rattle.record.specs.Writing.{unless_deep}
use Rattle.check_record.specs.Checked.{checked_record}

-- a caller's record whose text can be printed, or the first refusal that applies
unfoldable pub printable : (table names shape : List ℕ) → Order → Outcome Record
printable t ns s o = then (checked_record t ns s o) (λ r. unless_deep r (gives r))
