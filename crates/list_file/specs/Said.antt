-- The text for what a reading says of a header, with the rooms that it was read to, whatever they hold: document 01, "What the collector buys": "lists its record", "A refusal prints `refused` and the
-- number." The listing of a caller's record is Answer.antt of list_record.
use Rattle.refusal.specs.declared.Refusal.{Refusal}
use Rattle.counts.specs.declared.Bytes.{Bytes}
use Rattle.std.specs.Prelude.{ℕ, List, [], Err, Ok, Result}
use Rattle.counts.specs.Outcome.{Outcome}
use Rattle.counts.specs.Owes.{roomed, Owes}
use Rattle.refusal.specs.Numbers.{number_of}
use Rattle.refusal.specs.Answers.{bytes_answer}
use Rattle.record.specs.Rooms.{Lent}
use Rattle.header_prefix.specs.Answer.{version_is}
use Rattle.header.specs.declared.Header.{Header}
use Rattle.read_back.specs.Rooms.{table_stored, names_stored, shape_stored}
use Rattle.list_record.specs.Answer.{listed}
use Rattle.list_file.specs.Report.{refused_line}

-- the listing of the record at the fronts of the rooms
abbrev pub header_listed : Header → Lent → (room : List ℕ) → Outcome (List ℕ)
header_listed h l room = listed (version_is h.version) h.start.0 (table_stored h.info l) (names_stored h.info l) (shape_stored h.info l) h.info.order room

abbrev pub said_text : Result Header Refusal → Lent → (room : List ℕ) → Outcome (List ℕ)
said_text (Ok h) l room = header_listed h l room
said_text (Err why) l room = roomed 28 room (refused_line (number_of why) [])

-- the contracts
abbrev pub ListsHeader : Header → Lent → (room : List ℕ) → Result Bytes Refusal → (room' : List ℕ) → Type 0
ListsHeader h l room x room' = Owes (header_listed h l room) room (bytes_answer x) room'

abbrev pub WritesSaid : Result Header Refusal → Lent → (room : List ℕ) → Result Bytes Refusal → (room' : List ℕ) → Type 0
WritesSaid r l room x room' = Owes (said_text r l room) room (bytes_answer x) room'
