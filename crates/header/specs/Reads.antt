-- What reading a text and a file owes: the answer, and what the lent rooms then hold. Document 01, "The refusal numbers": "Each returns its number only; every
-- lent buffer stays unchanged. On success, room beyond what was needed is unchanged." What a text and a file give is `text_by` and `held_by` of crate record,
-- with the literal's own reading; every other that keeps the grammar's promise gives the same (`any_reading` in proofs/Outcomes.antt).
use Rattle.refusal.specs.Answers.{answer}
use Rattle.refusal.specs.declared.Refusal.{Refusal}
use Rattle.std.specs.Prelude.{ℕ, ◌≡◌, List, Bool, false, length, Err, Ok, Result}
use Rattle.counts.specs.Outcome.{Outcome, gives, refused, each, afterwards}
use Rattle.refusal.specs.Numbers.{number_of}
use Rattle.dtype.specs.Entries.{entries_of}
use Rattle.dtype.specs.Record.{name_bytes_of, Record}
use Rattle.record.specs.Prefix.{Version, Prefix}
use Rattle.record.specs.Rooms.{Lent, rooms_of, holding}
use Rattle.record.specs.Header as header
use Rattle.header_prefix.specs.Answer.{version_is}
use Rattle.judge.specs.Judged.{reading}
use Rattle.header.specs.declared.RecordInfo.{RecordInfo}
use Rattle.header.specs.declared.Header.{Header}

-- the three lent rooms
abbrev pub lent : (table names shape : List ℕ) → Lent
lent t ns s = record { table = t; names = ns; shape = s }

-- ---- a text
-- what is known of a record beside the rooms
abbrev pub info_of : Record → RecordInfo
info_of r = record { order = r.order; rank = length r.shape; entries = entries_of r.dtype; names = name_bytes_of r.dtype }

-- reading a text, by any reading of texts as literals: the answer, and the rooms afterwards
pub record ReadsTextBy (rd : header.Reading) (text : List ℕ) (l : Lent) (x : Result RecordInfo Refusal) (l' : Lent) : Type 0 where
  pub answered : answer x ≡ each info_of (header.text_by rd text l)
  pub after : l' ≡ afterwards holding (header.text_by rd text l) l

-- by the literal's own
abbrev pub ReadsText : (text : List ℕ) (l : Lent) → Result RecordInfo Refusal → (l' : Lent) → Type 0
ReadsText text l x l' = ReadsTextBy reading text l x l'

-- an accepted record, stored in the rooms
pub record Stores (r : Record) (l : Lent) (x : Result RecordInfo Refusal) (l' : Lent) : Type 0 where
  pub answered : answer x ≡ each info_of (header.fitted (rooms_of l) r r)
  pub after : l' ≡ afterwards holding (header.fitted (rooms_of l) r r) l

-- ---- a file
-- what is known of a header beside the rooms
pub record HeaderInfo : Type 0 where
  pub version : Version
  pub info : RecordInfo
  pub data_start : ℕ

abbrev pub header_info : header.Header → HeaderInfo
header_info h = record { version = h.version; info = info_of h.says; data_start = h.data_start }

abbrev pub header_is : Header → HeaderInfo
header_is h = record { version = version_is h.version; info = h.info; data_start = h.start.0 }

abbrev pub header_answer : Result Header Refusal → Outcome HeaderInfo
header_answer (Ok h) = gives (header_is h)
header_answer (Err why) = refused (number_of why)

-- reading a file, of which only the first bytes are held if it is longer, by any reading of texts as literals
pub record ReadsBy (rd : header.Reading) (longer : Bool) (file : List ℕ) (l : Lent) (x : Result Header Refusal) (l' : Lent) : Type 0 where
  pub answered : header_answer x ≡ each header_info (header.held_by rd longer file l)
  pub after : l' ≡ afterwards header.holding_header (header.held_by rd longer file l) l

-- by the literal's own
abbrev pub held_into : (longer : Bool) (file : List ℕ) → Lent → Outcome header.Header
held_into = header.held_by reading

abbrev pub ReadsHeld : (longer : Bool) (file : List ℕ) (l : Lent) → Result Header Refusal → (l' : Lent) → Type 0
ReadsHeld longer file l x l' = ReadsBy reading longer file l x l'

-- the header that a whole file begins with
abbrev pub Reads : (file : List ℕ) (l : Lent) → Result Header Refusal → (l' : Lent) → Type 0
Reads file l x l' = ReadsBy reading false file l x l'

-- reading what follows a prefix
abbrev pub after_prefix : (longer : Bool) (file : List ℕ) → Prefix → Lent → Outcome header.Header
after_prefix longer file p l = header.after_prefix_by reading longer file p (rooms_of l)

pub record ReadsAfterPrefix (longer : Bool) (file : List ℕ) (p : Prefix) (l : Lent) (x : Result Header Refusal) (l' : Lent) : Type 0 where
  pub answered : header_answer x ≡ each header_info (after_prefix longer file p l)
  pub after : l' ≡ afterwards header.holding_header (after_prefix longer file p l) l
