-- Demand 2, in both directions. Document 01, "What counts as an answer": "Demand 2 excludes a reader that refuses everything, one that returns a single fixed record, and a
-- writer that writes nothing: acceptance, record and bytes are all given here." Each function that reads a header, writes one, finds a place, reads an element at a place or writes one accepts
-- exactly the inputs that document 01 accepts, and returns exactly their record, bytes, place or element. What a text gives is said by the grammar. With which number
-- any other input is refused is said by the function's predicate (Functions.antt, InC.antt). Other functions are in
-- Further.antt, the check in Accepted.antt, the program's in Program.antt; what `count`, `item_number` and `type_read` return is one definition each, by their predicates.
use Rattle.header.specs.declared.Header as declared
use Rattle.counts.specs.declared.Points.{Points}
use Rattle.refusal.specs.declared.Refusal.{Refusal}
use Rattle.counts.specs.declared.Bytes.{Bytes}
use Rattle.std.specs.Prelude.{ℕ, ◌+◌, ◌≤◌, ◌≡◌, Bool, true, false, List, [], ◌∷◌, length, Result}
use Rattle.refusal.specs.Answers.{bytes_answer, points_answer, answer}
use Rattle.counts.specs.Outcome.{Outcome, gives}
use Rattle.counts.specs.Lists.{at_front}
use Rattle.literal_grammar.specs.Value.{Value, most_open}
use Rattle.literal_grammar.specs.Promise.{GivesIn}
use Rattle.utf8.specs.Utf8.{WellFormed}
use Rattle.type_str.specs.declared.TypeStr.{TypeStr}
use Rattle.type_str.specs.Text.{is_type}
use Rattle.dtype.specs.declared.Order.{Order}
use Rattle.dtype.specs.Entries.{has_object}
use Rattle.dtype.specs.Shape.{in_range}
use Rattle.dtype.specs.Record.{Record, table, names}
use Rattle.dtype.specs.Places.{plain_at, data_bytes, place}
use Rattle.record.specs.Prefix.{most_text, Prefix, data_start_of, prefix, text_or}
use Rattle.record.specs.FromValue.{record_of_value}
use Rattle.record.specs.Rooms.{Lent, holding}
use Rattle.record.specs.Header.{Header}
use Rattle.record.specs.File.{bare_text, text as header_text, file_of}
use Rattle.check_record.specs.Valid.{Valid}
use Rattle.header.specs.Reads.{HeaderInfo, header_info, header_answer}
use Rattle.place_area.specs.declared.Run.{Run}
use Rattle.place.specs.Place.{run_from}
use Rattle.string_value.specs.Elements.{bytes_in, points_in}
use Rattle.string_value.specs.Runs.{bytes_out, points_out}
use Rattle.element.specs.Bytes.{run_bytes}
use Rattle.npy_codes.specs.Codes.{one_number, order_number, type_values, header_values, run_values}
use Rattle.claims.specs.Doors.{Door, in_rattle, in_c}
use Rattle.claims.specs.Roomy.{Roomy}
use Rattle.claims.specs.Functions.{ReadHeld, WriteHeader, Place, ElementBytes, ElementPoints, WriteBytes, WritePoints}
use Rattle.claims.specs.InC.{NpyReadHeld, NpyWriteHeader, NpyPlace, NpyElementBytes, NpyElementPoints, NpyWriteBytes, NpyWritePoints}

-- a call that returned y and left `after`: it succeeded exactly where some a is due, and then it returned a's value and stored a
pub record Exactly {A B M R : Type 0} (door : Door B R) (Due : A → Type 0) (value : A → B) (store : A → M → M) (before : M) (y : R) (after : M) : Type 0 where
  pub all : (a : A) → Due a → (y ≡ door.returned (gives (value a))) × (after ≡ store a before)
  pub only : door.success y ≡ true → (a : A) × Due a

-- ---- reading
-- a header's text gives r: it is UTF-8 and one value with at most 32 brackets open at once, and r is that value's record
pub record InText (text : List ℕ) (r : Record) : Type 0 where
  pub well_formed : WellFormed text
  pub value : Value
  pub literal : GivesIn most_open text value
  pub is_record : record_of_value value ≡ gives r

-- a file begins with the header h: a prefix, and its complete text, which gives h's record
pub record InFile (file : List ℕ) (h : Header) : Type 0 where
  pub front : Prefix
  pub begins : prefix file ≡ gives front
  pub text : List ℕ
  pub whole : text_or 3 front file ≡ gives text
  pub says : InText text h.says
  pub same_version : h.version ≡ front.version
  pub data_starts : h.data_start ≡ data_start_of front

-- the rooms are large enough for a record
abbrev pub Fits : Lent → Record → Type 0
Fits l r = Roomy (table r.dtype) (names r.dtype) r.shape l

-- a file is read exactly if it begins with a header for whose record there is room; the values are the header's, and the rooms hold its record
abbrev pub ReadsExactly : {R : Type 0} → Door HeaderInfo R → (file : List ℕ) (l : Lent) (y : R) (l' : Lent) → Type 0
ReadsExactly door file l = Exactly door (λ h. InFile file h × Fits l h.says) header_info (λ h. holding h.says) l

-- ---- writing
-- the text of a record's header is a value with at most 32 brackets open at once (7), and padded it has at most 131,072 bytes (4)
pub record Printable (r : Record) : Type 0 where
  pub value : Value
  pub shallow : GivesIn most_open (bare_text r) value
  pub short : length (header_text r) ≤ most_text

-- the caller's record is r, its header can be printed, and there is room for all of it
pub record Writable (t ns s : List ℕ) (o : Order) (room : List ℕ) (r : Record) : Type 0 where
  pub valid : Valid t ns s o r
  pub printable : Printable r
  pub fits : length (file_of r) ≤ length room

-- a header is written exactly of those, and its bytes are exactly the header's
abbrev pub WritesExactly : {R : Type 0} → Door ℕ R → (Due : Record → Type 0) (room : List ℕ) (y : R) (room' : List ℕ) → Type 0
WritesExactly door Due = Exactly door Due (λ r. length (file_of r)) (λ r. at_front (file_of r))

-- ---- places
-- the caller's record is r, without an `O`; the file is long enough for its data; the index x is in range, and the path p leads to the plain type k
pub record PlaceIs (file start : ℕ) (t ns s : List ℕ) (o : Order) (x p : List ℕ) (r : Record) (k : TypeStr) : Type 0 where
  pub valid : Valid t ns s o r
  pub no_object : has_object r.dtype ≡ false
  pub long : start + data_bytes r ≤ file
  pub index_in_range : in_range r.shape x ≡ true
  pub leads : plain_at r.dtype p ≡ gives k

-- a place is found exactly for those, and it is exactly theirs; nothing is stored
abbrev pub PlacesExactly : {R : Type 0} → Door Run R → (Due : Record × TypeStr → Type 0) (start : ℕ) (x p : List ℕ) (y : R) → Type 0
PlacesExactly door Due start x p y = Exactly {M = Unit {0}} door Due (λ a. run_from (place start a.0 x p) a.1) (λ a m. m) tt y tt

-- ---- elements
-- the element at a place: its bytes, read by `within` as bytes or as code points, are the content, which fits the room
pub record Element (within : TypeStr → List ℕ → Outcome (List ℕ)) (file : List ℕ) (start : ℕ) (t ns s : List ℕ) (o : Order) (x p room content : List ℕ) : Type 0 where
  pub says : Record
  pub kind : TypeStr
  pub named : PlaceIs (length file) start t ns s o x p says kind
  pub is : within kind (run_bytes file (run_from (place start says x p) kind)) ≡ gives content
  pub fits : length content ≤ length room

-- what is read or written of a type by itself: the type k is one that readings give, the definition gives the content, and that fits the room
pub record ByItself (k : TypeStr) (given : Outcome (List ℕ)) (room content : List ℕ) : Type 0 where
  pub typed : is_type k ≡ true
  pub is : given ≡ gives content
  pub fits : length content ≤ length room

-- content is put in a room exactly where it is due, and it is exactly that; its length is returned
abbrev pub TakesExactly : {R : Type 0} → Door ℕ R → (Due : List ℕ → Type 0) (room : List ℕ) (y : R) (room' : List ℕ) → Type 0
TakesExactly door Due = Exactly door Due length at_front

-- ---- from C an order and a type are given by numbers, which have to name one
abbrev pub ByNumber : {N A : Type 0} → (numbers : List ℕ) (values : N → List ℕ) → (N → A → Type 0) → A → Type 0
ByNumber {N} numbers values Due a = (n : N) × (numbers ≡ values n) × Due n a

-- of an order
abbrev pub ByOrder : {A : Type 0} → (order : ℕ) → (Order → A → Type 0) → A → Type 0
ByOrder order = ByNumber (order ∷ []) (λ o. order_number o ∷ [])

-- of a type
abbrev pub ByType : {A : Type 0} → (order letter size units : ℕ) → (TypeStr → A → Type 0) → A → Type 0
ByType order letter size units = ByNumber (order ∷ letter ∷ size ∷ units ∷ []) type_values

-- the claim, of every call
pub record Exact : Type 0 where
  -- `header::read_held`, and `header::read`, which is the same of a file that is not longer
  pub read_held : (longer : Bool) (file : List ℕ) (l : Lent) (x : Result declared.Header Refusal) (l' : Lent) → ReadHeld longer file l x l' → ReadsExactly in_rattle file l (header_answer x) l'
  pub write_header : (t ns s : List ℕ) (o : Order) (out : List ℕ) (w : Result Bytes Refusal) (out' : List ℕ) → WriteHeader t ns s o out w out'
      → WritesExactly in_rattle (Writable t ns s o out) out (bytes_answer w) out'
  pub place : (file start : ℕ) (t ns s : List ℕ) (o : Order) (x p : List ℕ) (y : Result Run Refusal) → Place file start t ns s o x p y
      → PlacesExactly in_rattle (λ a. PlaceIs file start t ns s o x p a.0 a.1) start x p (answer y)
  pub element_bytes : (file : List ℕ) (start : ℕ) (t ns s : List ℕ) (o : Order) (x p out : List ℕ) (y : Result Bytes Refusal) (out' : List ℕ)
      → ElementBytes file start t ns s o x p out y out'
      → TakesExactly in_rattle (Element bytes_in file start t ns s o x p out) out (bytes_answer y) out'
  pub element_points : (file : List ℕ) (start : ℕ) (t ns s : List ℕ) (o : Order) (x p out : List ℕ) (y : Result Points Refusal) (out' : List ℕ)
      → ElementPoints file start t ns s o x p out y out'
      → TakesExactly in_rattle (Element points_in file start t ns s o x p out) out (points_answer y) out'
  -- `string_element::write_bytes`, `write_points`
  pub write_bytes : (k : TypeStr) (value out : List ℕ) (y : Result Bytes Refusal) (out' : List ℕ) → WriteBytes k value out y out'
      → TakesExactly in_rattle (ByItself k (bytes_out k value) out) out (bytes_answer y) out'
  pub write_points : (k : TypeStr) (value out : List ℕ) (y : Result Bytes Refusal) (out' : List ℕ) → WritePoints k value out y out'
      → TakesExactly in_rattle (ByItself k (points_out k value) out) out (bytes_answer y) out'

-- the same of the functions of the C interface
pub record ExactInC : Type 0 where
  -- `npy_read_held`, and `npy_read`, which is the same of a file that is not longer
  pub npy_read_held : (longer : Bool) (file : List ℕ) (l : Lent) (said : List ℕ) (r : ℕ) (l' : Lent) (said' : List ℕ) → NpyReadHeld longer file l said r l' said'
      → ReadsExactly (in_c header_values said) file l (r, said') l'
  pub npy_write_header : (t ns s : List ℕ) (order : ℕ) (out count : List ℕ) (r : ℕ) (out' count' : List ℕ) → NpyWriteHeader t ns s order out count r out' count'
      → WritesExactly (in_c one_number count) (ByOrder order (λ o. Writable t ns s o out)) out (r, count') out'
  pub npy_place : (file start : ℕ) (t ns s : List ℕ) (order : ℕ) (x p run : List ℕ) (r : ℕ) (run' : List ℕ) → NpyPlace file start t ns s order x p run r run'
      → PlacesExactly (in_c run_values run) (ByOrder order (λ o a. PlaceIs file start t ns s o x p a.0 a.1)) start x p (r, run')
  pub npy_element_bytes : (file : List ℕ) (start : ℕ) (t ns s : List ℕ) (order : ℕ) (x p out count : List ℕ) (r : ℕ) (out' count' : List ℕ)
      → NpyElementBytes file start t ns s order x p out count r out' count'
      → TakesExactly (in_c one_number count) (ByOrder order (λ o. Element bytes_in file start t ns s o x p out)) out (r, count') out'
  pub npy_element_points : (file : List ℕ) (start : ℕ) (t ns s : List ℕ) (order : ℕ) (x p out count : List ℕ) (r : ℕ) (out' count' : List ℕ)
      → NpyElementPoints file start t ns s order x p out count r out' count'
      → TakesExactly (in_c one_number count) (ByOrder order (λ o. Element points_in file start t ns s o x p out)) out (r, count') out'
  pub npy_write_bytes : (order letter size units : ℕ) (value out count : List ℕ) (r : ℕ) (out' count' : List ℕ)
      → NpyWriteBytes order letter size units value out count r out' count'
      → TakesExactly (in_c one_number count) (ByType order letter size units (λ k. ByItself k (bytes_out k value) out)) out (r, count') out'
  pub npy_write_points : (order letter size units : ℕ) (value out count : List ℕ) (r : ℕ) (out' count' : List ℕ)
      → NpyWritePoints order letter size units value out count r out' count'
      → TakesExactly (in_c one_number count) (ByType order letter size units (λ k. ByItself k (points_out k value) out)) out (r, count') out'
