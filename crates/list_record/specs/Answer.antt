-- What listing a caller's record puts in the room: its text; or 27, 13, 20, 21, 22 of the record, then 28.
use Rattle.refusal.specs.declared.Refusal.{Refusal}
use Rattle.counts.specs.declared.Bytes.{Bytes}
use Rattle.std.specs.Prelude.{ℕ, List, [], Result}
use Rattle.counts.specs.Outcome.{Outcome, then}
use Rattle.counts.specs.Owes.{roomed, Owes}
use Rattle.refusal.specs.Answers.{bytes_answer}
use Rattle.dtype.specs.declared.Order.{Order}
use Rattle.dtype.specs.Record.{Record}
use Rattle.record.specs.Prefix.{Version}
use Rattle.check_record.specs.Checked.{checked_record}
use Rattle.list_text.specs.Listing.{listing}

-- the listing of a caller's record, or the first refusal that applies
abbrev pub listed : Version → (start : ℕ) (t ns s : List ℕ) → Order → (room : List ℕ) → Outcome (List ℕ)
listed v start t ns s o room = then (checked_record t ns s o) (λ r. roomed 28 room (listing v start r []))

-- the contract of listing a caller's record
abbrev pub Lists : Version → (start : ℕ) (t ns s : List ℕ) → Order → (room : List ℕ) → Result Bytes Refusal → (room' : List ℕ) → Type 0
Lists v start t ns s o room x room' = Owes (listed v start t ns s o room) room (bytes_answer x) room'

-- .. of a record that was checked
abbrev pub ListsOne : Version → (start : ℕ) → Record → (room : List ℕ) → Result Bytes Refusal → (room' : List ℕ) → Type 0
ListsOne v start r room x room' = Owes (roomed 28 room (listing v start r [])) room (bytes_answer x) room'
