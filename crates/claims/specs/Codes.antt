-- The C interface. include/npy.h: "It returns NPY_OK, 0 and has written its values, or a refusal's number, 1 to 32, and has left all that it was lent as it was",
-- and "room beyond what was needed is left as it was"; document 01, "The refusal numbers": "Each returns its number only; every lent buffer stays unchanged." So 0 always
-- means success, and any other number a refusal. Stated of each function of crate npy by its predicate (InC.antt), but for those of a feeder, which return 255 for need more and are in Cuts.antt. t, ns and s are a caller's table, names and
-- shape, x an index and p a path; said, count, item and run are the numbers lent for the values; primed names are the lent memory after the call.
use Rattle.std.specs.Prelude.{ℕ, ◌≤◌, ◌≡◌, Bool, List, [], ◌∷◌, length, drop}
use Rattle.refusal.specs.Numbers.{last_number}
use Rattle.counts.specs.Outcome.{Outcome, gives, refused, then, each}
use Rattle.type_str.specs.TypeString.{type_string}
use Rattle.type_str.specs.Text.{type_printed}
use Rattle.shape.specs.Count.{item_count, strides_count}
use Rattle.record.specs.Prefix.{version_of}
use Rattle.record.specs.Rooms.{Lent}
use Rattle.record.specs.Header.{text_by, held_by}
use Rattle.check_record.specs.Answer.{summary}
use Rattle.check_record.specs.Checked.{checked_record}
use Rattle.place_item.specs.Item.{item_of}
use Rattle.place.specs.Place.{place_of}
use Rattle.header.specs.declared.RecordInfo.{RecordInfo}
use Rattle.header.specs.Reads as header
use Rattle.write.specs.Writes.{header_written}
use Rattle.list_record.specs.Answer.{listed}
use Rattle.string_value.specs.Rooms.{read_bytes, read_points, write_bytes, write_points}
use Rattle.value.specs.Values.{read_value}
use Rattle.element.specs.Element.{element_bytes, element_points, element_value}
use Rattle.npy_codes.specs.Codes.{one_number, order_for, type_for, type_values, text_values, header_values, summary_values, run_values}
use Rattle.npy_codes.specs.Values.{value_values}
use Rattle.claims.specs.Beyond.{SameRest}
use Rattle.claims.specs.Functions.{ByGrammar}
use Rattle.claims.specs.InC.{NpyReadHeld, NpyReadText, NpyCheck, NpyWriteHeader, NpyList, NpyCount, NpyStrides, NpyItemNumber, NpyPlace, NpyElementBytes, NpyElementPoints, NpyElementValue, NpyReadBytes, NpyReadPoints, NpyReadValue, NpyWriteBytes, NpyWritePoints, NpyTypeRead, NpyTypePrint}

-- a refusal: the definition refuses with r, which is one of the numbers from 1 to the last, and all lent memory is as it was
pub record Refuses {A M : Type 0} (o : Outcome A) (before : M) (r : ℕ) (after : M) : Type 0 where
  pub is : o ≡ refused r
  pub from_one : 1 ≤ r
  pub to_last : r ≤ last_number
  pub unchanged : after ≡ before

-- r is 0 exactly if the definition o gives a value, and the numbers lent for the values then hold it; any other r is a refusal
pub record Coded {A M : Type 0} (values : A → List ℕ) (o : Outcome A) (before : M) (r : ℕ) (after : M) (said : List ℕ) : Type 0 where
  pub zero : r ≡ 0 → (a : A) × (o ≡ gives a) × (said ≡ values a)
  pub other : (r ≡ 0 → ⊥) → Refuses o before r after

-- so for every call: of a function that is lent only numbers for its values
abbrev pub CodedAlone : {A : Type 0} → (values : A → List ℕ) (o : Outcome A) → (Call : ℕ → List ℕ → Type 0) → (said : List ℕ) → Type 0
CodedAlone values o Call said = (r : ℕ) (said' : List ℕ) → Call r said' → Coded values o said r said' said'

-- of a function that is lent rooms besides
abbrev pub CodedBeside : {A M : Type 0} → (values : A → List ℕ) (o : Outcome A) → (Call : ℕ → M → List ℕ → Type 0) → (room : M) (said : List ℕ) → Type 0
CodedBeside {A} {M} values o Call room said =
    (r : ℕ) (room' : M) (said' : List ℕ) → Call r room' said' → Coded {M = M × List ℕ} values o (room, said) r (room', said') said'

-- of a function that writes to one room, and whose value is how many bytes or code points it wrote
abbrev pub CodedPuts : (put : Outcome (List ℕ)) → (Call : ℕ → List ℕ → List ℕ → Type 0) → (room count : List ℕ) → Type 0
CodedPuts put = CodedBeside one_number (each length put)

-- the claim: 0 is a value and never a refusal, any other number is a refusal
pub record ZeroAnswers : Type 0 where
  -- `npy_read_held`, and `npy_read`, which is the same of a file that is not longer
  pub npy_read_held : (longer : Bool) (file : List ℕ) (l : Lent) (said : List ℕ)
      → ByGrammar (λ reading. CodedBeside header_values (each header.header_info (held_by reading longer file l)) (NpyReadHeld longer file l said) l said)
  pub npy_read_text : (text : List ℕ) (l : Lent) (said : List ℕ)
      → ByGrammar (λ reading. CodedBeside text_values (each header.info_of (text_by reading text l)) (NpyReadText text l said) l said)
  pub npy_check : (t ns s : List ℕ) (order : ℕ) (said : List ℕ)
      → CodedAlone summary_values (then (order_for order) (λ o. each summary (checked_record t ns s o))) (NpyCheck t ns s order said) said
  pub npy_write_header : (t ns s : List ℕ) (order : ℕ) (out count : List ℕ)
      → CodedPuts (then (order_for order) (λ o. header_written t ns s o out)) (NpyWriteHeader t ns s order out count) out count
  pub npy_list : (version start : ℕ) (t ns s : List ℕ) (order : ℕ) (out count : List ℕ)
      → CodedPuts (then (version_of version 0) (λ v. then (order_for order) (λ o. listed v start t ns s o out))) (NpyList version start t ns s order out count) out count
  pub npy_count : (s : List ℕ) (order : ℕ) (count : List ℕ) → CodedAlone one_number (then (order_for order) (λ o. item_count o s)) (NpyCount s order count) count
  pub npy_strides : (s : List ℕ) (order : ℕ) (out count : List ℕ)
      → CodedBeside one_number (then (order_for order) (λ o. strides_count o s (length out))) (NpyStrides s order out count) out count
  pub npy_item_number : (s : List ℕ) (order : ℕ) (x item : List ℕ) → CodedAlone one_number (then (order_for order) (λ o. item_of o s x)) (NpyItemNumber s order x item) item
  pub npy_place : (file start : ℕ) (t ns s : List ℕ) (order : ℕ) (x p run : List ℕ)
      → CodedAlone run_values (then (order_for order) (λ o. place_of file start t ns s o x p)) (NpyPlace file start t ns s order x p run) run
  pub npy_element_bytes : (file : List ℕ) (start : ℕ) (t ns s : List ℕ) (order : ℕ) (x p out count : List ℕ)
      → CodedPuts (then (order_for order) (λ o. element_bytes file start t ns s o x p out)) (NpyElementBytes file start t ns s order x p out count) out count
  pub npy_element_points : (file : List ℕ) (start : ℕ) (t ns s : List ℕ) (order : ℕ) (x p out count : List ℕ)
      → CodedPuts (then (order_for order) (λ o. element_points file start t ns s o x p out)) (NpyElementPoints file start t ns s order x p out count) out count
  pub npy_read_bytes : (run : List ℕ) (order letter size units : ℕ) (out count : List ℕ)
      → CodedPuts (then (type_for order letter size units) (λ k. read_bytes k run out)) (NpyReadBytes run order letter size units out count) out count
  pub npy_read_points : (run : List ℕ) (order letter size units : ℕ) (out count : List ℕ)
      → CodedPuts (then (type_for order letter size units) (λ k. read_points k run out)) (NpyReadPoints run order letter size units out count) out count
  pub npy_element_value : (file : List ℕ) (start : ℕ) (t ns s : List ℕ) (order : ℕ) (x p said : List ℕ)
      → CodedAlone value_values (then (order_for order) (λ o. element_value file start t ns s o x p)) (NpyElementValue file start t ns s order x p said) said
  pub npy_read_value : (run : List ℕ) (order letter size units : ℕ) (said : List ℕ)
      → CodedAlone value_values (then (type_for order letter size units) (λ k. read_value k run)) (NpyReadValue run order letter size units said) said
  pub npy_write_bytes : (order letter size units : ℕ) (value out count : List ℕ)
      → CodedPuts (then (type_for order letter size units) (λ k. write_bytes k value out)) (NpyWriteBytes order letter size units value out count) out count
  pub npy_write_points : (order letter size units : ℕ) (value out count : List ℕ)
      → CodedPuts (then (type_for order letter size units) (λ k. write_points k value out)) (NpyWritePoints order letter size units value out count) out count
  pub npy_type_read : (text said : List ℕ) → CodedAlone type_values (type_string text) (NpyTypeRead text said) said
  pub npy_type_print : (order letter size units : ℕ) (out count : List ℕ)
      → CodedPuts (then (type_for order letter size units) (λ k. type_printed k out)) (NpyTypePrint order letter size units out count) out count

-- demand 1 by itself, whatever the definitions say: a number other than 0 is one from 1 to the last, and all lent memory is as it was
abbrev pub RefusedAlone : {M : Type 0} → (before : M) (r : ℕ) (after : M) → Type 0
RefusedAlone before r after = (r ≡ 0 → ⊥) → (1 ≤ r) × (r ≤ last_number) × (after ≡ before)

-- of a function that is lent only numbers for its values, and of one that is lent rooms besides
abbrev pub AloneValues : (Call : ℕ → List ℕ → Type 0) → (said : List ℕ) → Type 0
AloneValues Call said = (r : ℕ) (said' : List ℕ) → Call r said' → RefusedAlone said r said'

abbrev pub AloneBeside : {M : Type 0} → (Call : ℕ → M → List ℕ → Type 0) → (room : M) (said : List ℕ) → Type 0
AloneBeside {M} Call room said = (r : ℕ) (room' : M) (said' : List ℕ) → Call r room' said' → RefusedAlone {M = M × List ℕ} (room, said) r (room', said')

-- the claim
pub record AloneInC : Type 0 where
  pub npy_read_held : (longer : Bool) (file : List ℕ) (l : Lent) (said : List ℕ) → AloneBeside (NpyReadHeld longer file l said) l said
  pub npy_read_text : (text : List ℕ) (l : Lent) (said : List ℕ) → AloneBeside (NpyReadText text l said) l said
  pub npy_check : (t ns s : List ℕ) (order : ℕ) (said : List ℕ) → AloneValues (NpyCheck t ns s order said) said
  pub npy_write_header : (t ns s : List ℕ) (order : ℕ) (out count : List ℕ) → AloneBeside (NpyWriteHeader t ns s order out count) out count
  pub npy_list : (version start : ℕ) (t ns s : List ℕ) (order : ℕ) (out count : List ℕ) → AloneBeside (NpyList version start t ns s order out count) out count
  pub npy_count : (s : List ℕ) (order : ℕ) (count : List ℕ) → AloneValues (NpyCount s order count) count
  pub npy_strides : (s : List ℕ) (order : ℕ) (out count : List ℕ) → AloneBeside (NpyStrides s order out count) out count
  pub npy_item_number : (s : List ℕ) (order : ℕ) (x item : List ℕ) → AloneValues (NpyItemNumber s order x item) item
  pub npy_place : (file start : ℕ) (t ns s : List ℕ) (order : ℕ) (x p run : List ℕ) → AloneValues (NpyPlace file start t ns s order x p run) run
  pub npy_element_bytes : (file : List ℕ) (start : ℕ) (t ns s : List ℕ) (order : ℕ) (x p out count : List ℕ) → AloneBeside (NpyElementBytes file start t ns s order x p out count) out count
  pub npy_element_points : (file : List ℕ) (start : ℕ) (t ns s : List ℕ) (order : ℕ) (x p out count : List ℕ) → AloneBeside (NpyElementPoints file start t ns s order x p out count) out count
  pub npy_read_bytes : (run : List ℕ) (order letter size units : ℕ) (out count : List ℕ) → AloneBeside (NpyReadBytes run order letter size units out count) out count
  pub npy_read_points : (run : List ℕ) (order letter size units : ℕ) (out count : List ℕ) → AloneBeside (NpyReadPoints run order letter size units out count) out count
  pub npy_element_value : (file : List ℕ) (start : ℕ) (t ns s : List ℕ) (order : ℕ) (x p said : List ℕ) → AloneValues (NpyElementValue file start t ns s order x p said) said
  pub npy_read_value : (run : List ℕ) (order letter size units : ℕ) (said : List ℕ) → AloneValues (NpyReadValue run order letter size units said) said
  pub npy_write_bytes : (order letter size units : ℕ) (value out count : List ℕ) → AloneBeside (NpyWriteBytes order letter size units value out count) out count
  pub npy_write_points : (order letter size units : ℕ) (value out count : List ℕ) → AloneBeside (NpyWritePoints order letter size units value out count) out count
  pub npy_type_read : (text said : List ℕ) → AloneValues (NpyTypeRead text said) said
  pub npy_type_print : (order letter size units : ℕ) (out count : List ℕ) → AloneBeside (NpyTypePrint order letter size units out count) out count

-- "room beyond what was needed is left as it was": if the count holds n afterwards, the room after the first n is unchanged
abbrev pub SparesBy : (Call : ℕ → List ℕ → List ℕ → Type 0) → (room : List ℕ) → Type 0
SparesBy Call room = (r : ℕ) (room' : List ℕ) (n : ℕ) → Call r room' (n ∷ []) → drop n room' ≡ drop n room

-- the claim
pub record RestInC : Type 0 where
  pub npy_read_held : (longer : Bool) (file : List ℕ) (l l' : Lent) (said : List ℕ) (r : ℕ) (i : header.HeaderInfo)
      → NpyReadHeld longer file l said r l' (header_values i) → SameRest i.info l l'
  pub npy_read_text : (text : List ℕ) (l l' : Lent) (said : List ℕ) (r : ℕ) (i : RecordInfo) → NpyReadText text l said r l' (text_values i) → SameRest i l l'
  pub npy_write_header : (t ns s : List ℕ) (order : ℕ) (out count : List ℕ) → SparesBy (NpyWriteHeader t ns s order out count) out
  pub npy_list : (version start : ℕ) (t ns s : List ℕ) (order : ℕ) (out count : List ℕ) → SparesBy (NpyList version start t ns s order out count) out
  pub npy_type_print : (order letter size units : ℕ) (out count : List ℕ) → SparesBy (NpyTypePrint order letter size units out count) out
  pub npy_element_bytes : (file : List ℕ) (start : ℕ) (t ns s : List ℕ) (order : ℕ) (x p out count : List ℕ) → SparesBy (NpyElementBytes file start t ns s order x p out count) out
  pub npy_element_points : (file : List ℕ) (start : ℕ) (t ns s : List ℕ) (order : ℕ) (x p out count : List ℕ) → SparesBy (NpyElementPoints file start t ns s order x p out count) out
  pub npy_read_bytes : (run : List ℕ) (order letter size units : ℕ) (out count : List ℕ) → SparesBy (NpyReadBytes run order letter size units out count) out
  pub npy_read_points : (run : List ℕ) (order letter size units : ℕ) (out count : List ℕ) → SparesBy (NpyReadPoints run order letter size units out count) out
  pub npy_write_bytes : (order letter size units : ℕ) (value out count : List ℕ) → SparesBy (NpyWriteBytes order letter size units value out count) out
  pub npy_write_points : (order letter size units : ℕ) (value out count : List ℕ) → SparesBy (NpyWritePoints order letter size units value out count) out
  -- it writes one number for each dimension, and its value is the item count
  pub npy_strides : (s : List ℕ) (order : ℕ) (out count : List ℕ) (r : ℕ) (out' count' : List ℕ) → NpyStrides s order out count r out' count'
      → drop (length s) out' ≡ drop (length s) out
