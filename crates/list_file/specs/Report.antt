-- Document 01, "What the collector buys": "A small program reads a file on standard input and lists its record. It starts from a fresh table of 512 empty entries. It holds the
-- file's first 65,536 bytes and 16,384 name bytes; a longer file whose header ends past those gets 23 right after 4; too many name bytes get 23 last. .. A refusal prints
-- `refused` and the number." How a header is read from the bytes that are held is Header.antt of record, its listing Listing.antt of list_text.
use Rattle.refusal.specs.declared.Refusal.{Refusal}
use Rattle.counts.specs.declared.Bytes.{Bytes}
use Rattle.std.specs.Prelude.{ℕ, ◌*◌, List, [], ◌∷◌, ltb, length, take, replicate, Result}
use Rattle.counts.specs.Outcome.{Outcome, gives, refused}
use Rattle.counts.specs.Owes.{roomed, Owes}
use Rattle.decimal.specs.Decimal.{printed}
use Rattle.refusal.specs.Answers.{bytes_answer}
use Rattle.dtype.specs.Record.{entry_width}
use Rattle.record.specs.Rooms.{Lent}
use Rattle.record.specs.Header.{Header}
use Rattle.list_text.specs.Listing.{listing}
use Rattle.header.specs.Reads.{held_into}

-- "It holds the file's first 65,536 bytes"
abbrev pub held_most : ℕ
held_most = 65536

-- "a fresh table of 512 empty entries", "16,384 name bytes", and room for the 32 dimensions of a shape
unfoldable pub fresh : Lent
fresh = record { table = replicate (entry_width * 512) 0; names = replicate 16384 0; shape = replicate 32 0 }

-- "A refusal prints `refused` and the number."
abbrev pub refused_line : ℕ → List ℕ → List ℕ
refused_line n x = 114 ∷ 101 ∷ 102 ∷ 117 ∷ 115 ∷ 101 ∷ 100 ∷ 32 ∷ printed n (10 ∷ x)

-- the text for a header that was read, or for its refusal
abbrev pub text_for : Outcome Header → List ℕ
text_for (gives h) = listing h.version h.data_start h.says []
text_for (refused n) = refused_line n []

-- what is printed of a file
unfoldable pub report_of : (file : List ℕ) → List ℕ
report_of file = text_for (held_into (ltb held_most (length file)) (take held_most file) fresh)

-- the contract of writing a text, and of the report of a file: the text, or 28
abbrev pub WritesText : (text room : List ℕ) → Result Bytes Refusal → (room' : List ℕ) → Type 0
WritesText text room x room' = Owes (roomed 28 room text) room (bytes_answer x) room'

abbrev pub Reports : (file room : List ℕ) → Result Bytes Refusal → (room' : List ℕ) → Type 0
Reports file room x room' = WritesText (report_of file) room x room'
