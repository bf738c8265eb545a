-- Demand 3, of `header::read` and `place::place`, and of `npy_read` and `npy_place`. Document 01, "What counts as an answer": "Demand 3 speaks of the record of demand 2, so an
-- empty table can't satisfy it, and a walk correct only for item 0 or the first field leaves bytes without an owner." After a file was read the rooms hold its record, which is valid. If
-- it has no `O` and the file is at least as long as data start + count times item size, each index in range with each path to a plain type is answered with the run of
-- that type's bytes at "data start + item size times the sum of index times stride + the offset inside the item" (`place`, dtype/specs/Places.antt), inside the data
-- area; all else with 26; and each byte of the data area belongs to exactly one index, path and byte of such a run.
use Rattle.header.specs.declared.Header as declared
use Rattle.std.specs.Prelude.{ℕ, ◌+◌, ◌<◌, ◌≤◌, ◌≡◌, true, false, List, length, Err, Ok, Result}
use Rattle.refusal.specs.declared.Refusal.{Refusal}
use Rattle.counts.specs.Outcome.{gives, given}
use Rattle.type_str.specs.declared.TypeStr.{TypeStr}
use Rattle.dtype.specs.declared.Order.{Order}
use Rattle.dtype.specs.Entries.{has_object}
use Rattle.dtype.specs.Shape.{in_range}
use Rattle.dtype.specs.Record.{Record}
use Rattle.dtype.specs.PlainBytes.{plain_bytes}
use Rattle.dtype.specs.Places.{plain_at, data_bytes, place, Ask}
use Rattle.record.specs.Rooms.{Lent, holding}
use Rattle.record.specs.Header.{Header}
use Rattle.check_record.specs.Valid.{Valid}
use Rattle.place_area.specs.declared.Run.{Run}
use Rattle.place.specs.Place.{run_from}
use Rattle.header.specs.Reads.{info_of, header_info, header_answer}
use Rattle.read_back.specs.Rooms.{table_stored, names_stored, shape_stored}
use Rattle.npy_codes.specs.Codes.{order_number, header_values, run_values}
use Rattle.claims.specs.Functions.{Read, Place}
use Rattle.claims.specs.InC.{NpyRead, NpyPlace}

-- the byte b of the file belongs to an index, a path, and a byte of the run that document 01's formula gives for them
pub record Owns (start : ℕ) (r : Record) (a : Ask) (b : ℕ) : Type 0 where
  pub kind : TypeStr
  pub index_in_range : in_range r.shape a.index ≡ true
  pub leads : plain_at r.dtype a.path ≡ gives kind
  pub in_run : a.byte < plain_bytes kind
  pub is_byte : place start r a.index a.path + a.byte ≡ b

-- The data area of the record r, from `start` on, and a place's function: `Call x p y` where a call with the index x and the path p has the result y. `at` is the result for
-- a run, `nowhere` the one for 26.
pub record Owned {Y : Type 0} (Call : (x p : List ℕ) → Y → Type 0) (at : Run → Y) (nowhere : Y) (start : ℕ) (r : Record) : Type 0 where
  -- an index in range and a path to a plain type name the run of the type's bytes at document 01's place ..
  pub by_formula : (x p : List ℕ) (k : TypeStr) → in_range r.shape x ≡ true → plain_at r.dtype p ≡ gives k
      → (y : Y) → Call x p y → y ≡ at (run_from (place start r x p) k)
  -- .. which is inside the data area
  pub inside : (x p : List ℕ) (k : TypeStr) → in_range r.shape x ≡ true → plain_at r.dtype p ≡ gives k
      → (start ≤ place start r x p) × (place start r x p + plain_bytes k ≤ start + data_bytes r)
  -- all else is 26
  pub elsewhere : (x p : List ℕ) → ((k : TypeStr) → in_range r.shape x ≡ true → plain_at r.dtype p ≡ gives k → ⊥) → (y : Y) → Call x p y → y ≡ nowhere
  -- each byte of the data area belongs to such a run, and only once
  pub each_byte : (b : ℕ) → b < data_bytes r → (a : Ask) × Owns start r a (start + b)
  pub once : (b : ℕ) (a a' : Ask) → Owns start r a b → Owns start r a' b → a ≡ a'

-- the first claim, of every caller's record that is valid, whoever made it, and every file that holds its data
abbrev pub RecordOwned : Type 0
RecordOwned =
    (file start : ℕ) (t ns s : List ℕ) (o : Order) (r : Record) → Valid t ns s o r → has_object r.dtype ≡ false → start + data_bytes r ≤ file
    → Owned (Place file start t ns s o) Ok (Err Refusal.Nowhere) start r

-- the same in C: 0 and the run's values, or 26 and the values' room `run` as it was
abbrev pub RecordOwnedInC : Type 0
RecordOwnedInC =
    (file start : ℕ) (t ns s : List ℕ) (o : Order) (r : Record) → Valid t ns s o r → has_object r.dtype ≡ false → start + data_bytes r ≤ file
    → (run : List ℕ)
    → Owned {Y = ℕ × List ℕ} (λ x p y. NpyPlace file start t ns s (order_number o) x p run y.0 y.1) (λ u. (0, run_values u)) (26, run) start r

-- a file that is read has such a header: its values were returned, and its record was stored
pub record HeaderStored : Type 0 where
  pub read : (file : List ℕ) (l l' : Lent) (x : Result declared.Header Refusal) → Read file l x l' → given (header_answer x) ≡ true
      → (h : Header) × (header_answer x ≡ gives (header_info h)) × (l' ≡ holding h.says l)
  pub npy_read : (file : List ℕ) (l l' : Lent) (said said' : List ℕ) → NpyRead file l said 0 l' said'
      → (h : Header) × (said' ≡ header_values (header_info h)) × (l' ≡ holding h.says l)

-- after the header h was read: the rooms hold its record, which is valid, and its data area, if it has no `O` and the file is long enough, is owned
pub record DataOwnedBy (file : List ℕ) (h : Header) (l' : Lent) (Area : (start : ℕ) → Record → Type 0) : Type 0 where
  pub valid :
      let i = info_of h.says in
      Valid (table_stored i l') (names_stored i l') (shape_stored i l') i.order h.says
  pub owned : has_object h.says.dtype ≡ false → h.data_start + data_bytes h.says ≤ length file → Area h.data_start h.says

-- the second claim, for every file that is read: h is the header whose values were returned and whose record was stored. There is one (`HeaderStored`), and by Exact.antt the file
-- begins with it
abbrev pub DataOwned : Type 0
DataOwned =
    (file : List ℕ) (l l' : Lent) (x : Result declared.Header Refusal) (h : Header) → Read file l x l' → header_answer x ≡ gives (header_info h) → l' ≡ holding h.says l
    → let i = info_of h.says in
    DataOwnedBy file h l'
    (Owned (Place (length file) h.data_start (table_stored i l') (names_stored i l') (shape_stored i l') i.order) Ok (Err Refusal.Nowhere))

-- the same in C
abbrev pub DataOwnedInC : Type 0
DataOwnedInC =
    (file : List ℕ) (l l' : Lent) (said said' : List ℕ) (h : Header) → NpyRead file l said 0 l' said' → said' ≡ header_values (header_info h) → l' ≡ holding h.says l
    → (run : List ℕ)
    → let i = info_of h.says in
    DataOwnedBy file h l'
    (Owned {Y = ℕ × List ℕ}
    (λ x p y. NpyPlace (length file) h.data_start (table_stored i l') (names_stored i l') (shape_stored i l') (order_number i.order) x p run y.0 y.1)
    (λ u. (0, run_values u)) (26, run))
