-- Demand 2: what is written is read back, and what was read is written and read back. Stated of `write::write_header` and `header::read`, and of `npy_write_header` and
-- `npy_read`. `WrittenRead`: the bytes that were written, with anything after them, are read as the caller's table, names, shape and order, and the data
-- starts after them; or the result is 23, if a room is too small. `ReadWritten`: the record that a reading left in the rooms is refused by the writer with 4 exactly if its
-- text is over 131,072 bytes, then with 28 exactly if the output room is too small; else it is written and read back. That some header is
-- read and some record written at all follows with Exact.antt from document 01's 80 bytes and from document 02's 128 (`eighty_read` and `three_writable`, Edges.antt).
use Rattle.header.specs.declared.Header as declared
use Rattle.refusal.specs.declared.Refusal.{Refusal}
use Rattle.counts.specs.declared.Bytes.{Bytes}
use Rattle.std.specs.Prelude.{ℕ, ◌*◌, ◌<◌, ◌≤◌, ◌≡◌, List, [], ◌∷◌, ◌++◌, length, take, Ok, Result}
use Rattle.counts.specs.Outcome.{gives, refused}
use Rattle.counts.specs.Lists.{at_front}
use Rattle.refusal.specs.Answers.{bytes_answer}
use Rattle.dtype.specs.declared.Order.{Order}
use Rattle.dtype.specs.Record.{entry_width, Record, table, names}
use Rattle.record.specs.Prefix.{most_text}
use Rattle.record.specs.Rooms.{Lent, holding}
use Rattle.record.specs.Header.{Header}
use Rattle.record.specs.File.{text as header_text, file_of}
use Rattle.header.specs.Reads.{HeaderInfo, info_of, header_info, header_answer}
use Rattle.read_back.specs.Rooms.{table_stored, names_stored, shape_stored}
use Rattle.npy_codes.specs.Codes.{one_number, order_number, header_values}
use Rattle.claims.specs.Doors.{Door, in_rattle, in_c}
use Rattle.claims.specs.Roomy.{Roomy}
use Rattle.claims.specs.Functions.{Read, WriteHeader}
use Rattle.claims.specs.InC.{NpyRead, NpyWriteHeader}

-- ---- what was written is read back
-- a header was read with this order, whose data starts at `start`: its values are returned (its version is Exact.antt's), and the rooms begin with the table, the names and the
-- shape, whose lengths are among the values
pub record ReadAs {R : Type 0} (door : Door HeaderInfo R) (t ns s : List ℕ) (o : Order) (start : ℕ) (l : Lent) (y : R) (l' : Lent) : Type 0 where
  pub header : HeaderInfo
  pub is : y ≡ door.returned (gives header)
  pub starts : header.data_start ≡ start
  pub order_is : header.info.order ≡ o
  pub entries_are : entry_width * header.info.entries ≡ length t
  pub names_are : header.info.names ≡ length ns
  pub rank_is : header.info.rank ≡ length s
  pub stored : l' ≡ record { table = at_front t l.table; names = at_front ns l.names; shape = at_front s l.shape }

-- .. if the rooms are large enough; else 23, and the rooms are unchanged
pub record ComesBack {R : Type 0} (door : Door HeaderInfo R) (t ns s : List ℕ) (o : Order) (start : ℕ) (l : Lent) (y : R) (l' : Lent) : Type 0 where
  pub roomy : Roomy t ns s l → ReadAs door t ns s o start l y l'
  pub no_room : (Roomy t ns s l → ⊥) → (y ≡ door.returned (refused 23)) × (l' ≡ l)

-- whatever follows these bytes and whatever rooms are lent, reading them gives this record, by `header::read` and by `npy_read`
abbrev pub ReadBack : (bytes : List ℕ) (t ns s : List ℕ) (o : Order) → Type 0
ReadBack bytes t ns s o =
    (rest : List ℕ) (l l' : Lent) (x : Result declared.Header Refusal) → Read (bytes ++ rest) l x l' → ComesBack in_rattle t ns s o (length bytes) l (header_answer x) l'

abbrev pub NpyReadBack : (bytes : List ℕ) (t ns s : List ℕ) (o : Order) → Type 0
NpyReadBack bytes t ns s o =
    (rest : List ℕ) (l l' : Lent) (said said' : List ℕ) (r : ℕ) → NpyRead (bytes ++ rest) l said r l' said'
    → ComesBack (in_c header_values said) t ns s o (length bytes) l (r, said') l'

-- the first claim
abbrev pub WrittenRead : Type 0
WrittenRead =
    (t ns s : List ℕ) (o : Order) (out out' : List ℕ) (n : ℕ) → WriteHeader t ns s o out (Ok (record { 0 = n })) out'
    → (length (take n out') ≡ n) × ReadBack (take n out') t ns s o

-- the same in C: the order's number names an order
abbrev pub WrittenReadInC : Type 0
WrittenReadInC =
    (t ns s : List ℕ) (order : ℕ) (out out' count : List ℕ) (n : ℕ) → NpyWriteHeader t ns s order out count 0 out' (n ∷ [])
    → (o : Order) × (order ≡ order_number o) × (length (take n out') ≡ n) × NpyReadBack (take n out') t ns s o

-- ---- what was read is written and read back
-- the result w of writing a record r: 4, 28, or the bytes of a header for which `Again` holds
pub record GoesAgain {R : Type 0} (door : Door ℕ R) (r : Record) (out : List ℕ) (w : R) (out' : List ℕ) (Again : (bytes : List ℕ) → Type 0) : Type 0 where
  pub long : most_text < length (header_text r) → (w ≡ door.returned (refused 4)) × (out' ≡ out)
  pub no_room : length (header_text r) ≤ most_text → length out < length (file_of r) → (w ≡ door.returned (refused 28)) × (out' ≡ out)
  pub written : length (header_text r) ≤ most_text → length (file_of r) ≤ length out
      → (w ≡ door.returned (gives (length (file_of r)))) × (out' ≡ at_front (file_of r) out) × Again (file_of r)

-- reading the bytes gives the record r
abbrev pub SameRecord : ((bytes t ns s : List ℕ) → Order → Type 0) → Record → (bytes : List ℕ) → Type 0
SameRecord Back r bytes = Back bytes (table r.dtype) (names r.dtype) r.shape r.order

-- the second claim: the record of the header h that was read goes again; h is the header whose values were returned and whose record was stored. There is one (`HeaderStored`,
-- Places.antt), and by Exact.antt the file begins with it
abbrev pub ReadWritten : Type 0
ReadWritten =
    (file : List ℕ) (l l' : Lent) (x : Result declared.Header Refusal) (h : Header) → Read file l x l' → header_answer x ≡ gives (header_info h) → l' ≡ holding h.says l
    → (out out' : List ℕ) (w : Result Bytes Refusal)
    → let i = info_of h.says in
    WriteHeader (table_stored i l') (names_stored i l') (shape_stored i l') i.order out w out'
    → GoesAgain in_rattle h.says out (bytes_answer w) out' (SameRecord ReadBack h.says)

-- the same in C
abbrev pub ReadWrittenInC : Type 0
ReadWrittenInC =
    (file : List ℕ) (l l' : Lent) (said said' : List ℕ) (h : Header) → NpyRead file l said 0 l' said' → said' ≡ header_values (header_info h) → l' ≡ holding h.says l
    → (out out' count count' : List ℕ) (w : ℕ)
    → let i = info_of h.says in
    NpyWriteHeader (table_stored i l') (names_stored i l') (shape_stored i l') (order_number i.order) out count w out' count'
    → GoesAgain (in_c one_number count) h.says out (w, count') out' (SameRecord NpyReadBack h.says)
