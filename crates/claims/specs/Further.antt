-- The functions beside those that demand 2 names (Exact.antt): a text by itself, an element by itself, strides, a listing, a type string printed, one character, the program's text.
-- Each succeeds exactly where it is due, and returns and writes exactly what is due. With which number any other input is refused is said by the function's predicate.
use Rattle.counts.specs.declared.Points.{Points}
use Rattle.counts.specs.declared.Items.{Items}
use Rattle.refusal.specs.declared.Refusal.{Refusal}
use Rattle.counts.specs.declared.Bytes.{Bytes}
use Rattle.std.specs.Prelude.{ℕ, ◌≤◌, ◌≡◌, true, false, List, [], ◌∷◌, length, Result}
use Rattle.refusal.specs.Answers.{items_answer, bytes_answer, points_answer, answer}
use Rattle.counts.specs.Outcome.{gives}
use Rattle.counts.specs.Lists.{at_front}
use Rattle.utf8_scalar.specs.Scalar.{is_scalar}
use Rattle.utf8_scalar.specs.Encode.{encode}
use Rattle.type_str.specs.declared.TypeStr.{TypeStr}
use Rattle.type_str.specs.Text.{type_text}
use Rattle.dtype.specs.declared.Order.{Order}
use Rattle.dtype.specs.Limits.{over_shape}
use Rattle.dtype.specs.Record.{Record}
use Rattle.dtype.specs.Shape.{product, strides}
use Rattle.record.specs.Rooms.{Lent, holding}
use Rattle.record.specs.Prefix.{Version, major}
use Rattle.check_record.specs.Valid.{Valid}
use Rattle.header.specs.declared.RecordInfo.{RecordInfo}
use Rattle.header.specs.Reads.{info_of}
use Rattle.string_value.specs.Elements.{bytes_in, points_in}
use Rattle.list_text.specs.Listing.{listing}
use Rattle.npy_codes.specs.Codes.{one_number, order_number, text_values}
use Rattle.claims.specs.Doors.{Door, in_rattle, in_c}
use Rattle.claims.specs.Exact.{Exactly, InText, Fits, ByItself, TakesExactly, ByNumber, ByType}
use Rattle.claims.specs.Functions.{ByGrammar, ReadText, report_by, Report, ListRecord, Strides, ReadBytes, ReadPoints, TypeIsPrinted, Encode}
use Rattle.claims.specs.InC.{NpyReadText, NpyList, NpyStrides, NpyReadBytes, NpyReadPoints, NpyTypePrint}

-- a text is read exactly if it gives a record for which there is room; the values are the record's, and the rooms hold it
abbrev pub ReadsTextExactly : {R : Type 0} → Door RecordInfo R → (text : List ℕ) (l : Lent) (y : R) (l' : Lent) → Type 0
ReadsTextExactly door text l = Exactly door (λ r. InText text r × Fits l r) info_of holding l

-- the strides of a shape: neither they nor the item count are over 2^64-1 (22), and there is room for them (23)
pub record StridesDue (o : Order) (s room : List ℕ) : Type 0 where
  pub within : over_shape o s ≡ false
  pub fits : length s ≤ length room

-- they are written exactly then, and the item count is returned
abbrev pub StridesExactly : {R : Type 0} → Door ℕ R → (Due : Order → Type 0) (s room : List ℕ) (y : R) (room' : List ℕ) → Type 0
StridesExactly door Due s = Exactly door Due (λ o. product s) (λ o. at_front (strides o s))

-- the content is the listing of the caller's record, as a header of this version with this data start, and it fits the room
pub record ListingIs (v : Version) (start : ℕ) (t ns s : List ℕ) (o : Order) (room content : List ℕ) : Type 0 where
  pub says : Record
  pub valid : Valid t ns s o says
  pub is : content ≡ listing v start says []
  pub fits : length content ≤ length room

-- the content is the UTF-8 of a scalar value, and it fits the room
pub record Encoded (value : ℕ) (room content : List ℕ) : Type 0 where
  pub scalar : is_scalar value ≡ true
  pub is : content ≡ encode value
  pub fits : length content ≤ length room

-- the claim, of every call
pub record FurtherExact : Type 0 where
  -- `header::read_text`
  pub read_text : (text : List ℕ) (l : Lent) (x : Result RecordInfo Refusal) (l' : Lent) → ReadText text l x l' → ReadsTextExactly in_rattle text l (answer x) l'
  -- `shape::strides`
  pub strides : (s : List ℕ) (o : Order) (out : List ℕ) (y : Result Items Refusal) (out' : List ℕ) → Strides s o out y out'
      → StridesExactly in_rattle (λ a. (a ≡ o) × StridesDue a s out) s out (items_answer y) out'
  -- `list_record::list`
  pub list : (v : Version) (start : ℕ) (t ns s : List ℕ) (o : Order) (out : List ℕ) (y : Result Bytes Refusal) (out' : List ℕ) → ListRecord v start t ns s o out y out'
      → TakesExactly in_rattle (ListingIs v start t ns s o out) out (bytes_answer y) out'
  -- `list_file::report`; of `report_whole` see Program.antt
  pub report : (file out : List ℕ) (y : Result Bytes Refusal) (out' : List ℕ) → Report file out y out'
      → ByGrammar (λ reading. TakesExactly in_rattle (λ c. (c ≡ report_by reading file) × (length c ≤ length out)) out (bytes_answer y) out')
  -- `string_element::read_bytes`, `read_points`
  pub read_bytes : (run : List ℕ) (k : TypeStr) (out : List ℕ) (y : Result Bytes Refusal) (out' : List ℕ) → ReadBytes run k out y out'
      → TakesExactly in_rattle (ByItself k (bytes_in k run) out) out (bytes_answer y) out'
  pub read_points : (run : List ℕ) (k : TypeStr) (out : List ℕ) (y : Result Points Refusal) (out' : List ℕ) → ReadPoints run k out y out'
      → TakesExactly in_rattle (ByItself k (points_in k run) out) out (points_answer y) out'
  -- `type_print::print`, `utf8_scalar::encode`
  pub type_print : (k : TypeStr) (out : List ℕ) (y : Result Bytes Refusal) (out' : List ℕ) → TypeIsPrinted k out y out'
      → TakesExactly in_rattle (ByItself k (gives (type_text k [])) out) out (bytes_answer y) out'
  pub encode : (value : ℕ) (out : List ℕ) (y : Result Bytes Refusal) (out' : List ℕ) → Encode value out y out'
      → TakesExactly in_rattle (Encoded value out) out (bytes_answer y) out'

-- the same of the functions of the C interface
pub record FurtherExactInC : Type 0 where
  pub npy_read_text : (text : List ℕ) (l : Lent) (said : List ℕ) (r : ℕ) (l' : Lent) (said' : List ℕ) → NpyReadText text l said r l' said'
      → ReadsTextExactly (in_c text_values said) text l (r, said') l'
  pub npy_strides : (s : List ℕ) (order : ℕ) (out count : List ℕ) (r : ℕ) (out' count' : List ℕ) → NpyStrides s order out count r out' count'
      → StridesExactly (in_c one_number count) (λ o. (order ≡ order_number o) × StridesDue o s out) s out (r, count') out'
  pub npy_list : (version start : ℕ) (t ns s : List ℕ) (order : ℕ) (out count : List ℕ) (r : ℕ) (out' count' : List ℕ)
      → NpyList version start t ns s order out count r out' count'
      → TakesExactly (in_c one_number count) (ByNumber {N = Version × Order} (version ∷ order ∷ []) (λ a. major a.0 ∷ order_number a.1 ∷ []) (λ a. ListingIs a.0 start t ns s a.1 out)) out (r, count') out'
  pub npy_read_bytes : (run : List ℕ) (order letter size units : ℕ) (out count : List ℕ) (r : ℕ) (out' count' : List ℕ)
      → NpyReadBytes run order letter size units out count r out' count'
      → TakesExactly (in_c one_number count) (ByType order letter size units (λ k. ByItself k (bytes_in k run) out)) out (r, count') out'
  pub npy_read_points : (run : List ℕ) (order letter size units : ℕ) (out count : List ℕ) (r : ℕ) (out' count' : List ℕ)
      → NpyReadPoints run order letter size units out count r out' count'
      → TakesExactly (in_c one_number count) (ByType order letter size units (λ k. ByItself k (points_in k run) out)) out (r, count') out'
  pub npy_type_print : (order letter size units : ℕ) (out count : List ℕ) (r : ℕ) (out' count' : List ℕ)
      → NpyTypePrint order letter size units out count r out' count'
      → TakesExactly (in_c one_number count) (ByType order letter size units (λ k. ByItself k (gives (type_text k [])) out)) out (r, count') out'
