-- Document 01, "The refusal numbers": "Writing a header: 27 (bad tree, type, order or UTF-8 name), 13, 20, 21, 22, 7, 4, 28." The record's own
-- refusals are check_record's; 7, 4, 28 and the bytes are record's.
use Rattle.refusal.specs.declared.Refusal.{Refusal}
use Rattle.counts.specs.declared.Bytes.{Bytes}
use Rattle.std.specs.Prelude.{ℕ, List, Result}
use Rattle.counts.specs.Outcome.{Outcome, then}
use Rattle.counts.specs.Owes.{Owes}
use Rattle.refusal.specs.Answers.{bytes_answer}
use Rattle.dtype.specs.declared.Order.{Order}
use Rattle.dtype.specs.Record.{Record}
use Rattle.record.specs.Writing.{writing}
use Rattle.check_record.specs.Checked.{checked_record}

-- the header of a caller's record, or the first refusal that applies
unfoldable pub header_written : (table names shape : List ℕ) → Order → (room : List ℕ) → Outcome (List ℕ)
header_written t ns s o room = then (checked_record t ns s o) (λ r. writing r room)

-- the contract of writing a caller's record
abbrev pub WritesHeader : (t ns s : List ℕ) → Order → (room : List ℕ) → Result Bytes Refusal → (room' : List ℕ) → Type 0
WritesHeader t ns s o room r room' = Owes (header_written t ns s o room) room (bytes_answer r) room'

-- .. of a record that was checked
abbrev pub WritesRecord : Record → (room : List ℕ) → Result Bytes Refusal → (room' : List ℕ) → Type 0
WritesRecord x room r room' = Owes (writing x room) room (bytes_answer r) room'
