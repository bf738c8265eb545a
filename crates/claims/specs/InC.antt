-- One predicate for each function of the C interface (include/npy.h, crate npy), as Functions.antt has them for the Rattle crates: the number r that a call has returned,
-- and what all that was lent then holds. src/lib.rt ties each to its function. An order, a version and a type are given by numbers; said, count, item and the run of `npy_place` are
-- the numbers lent for the values; primed names are what was lent, after the call.
use Rattle.std.specs.Prelude.{ℕ, ◌≡◌, Bool, false, List}
use Rattle.counts.specs.Lists.{AllBytes}
use Rattle.counts.specs.Outcome.{then, each, afterwards}
use Rattle.type_str.specs.TypeString.{type_string}
use Rattle.shape.specs.Count.{item_count}
use Rattle.record.specs.Rooms.{Lent, holding}
use Rattle.record.specs.Header.{text_by, held_by, holding_header}
use Rattle.record.specs.Sound.{Small}
use Rattle.check_record.specs.Answer.{summary}
use Rattle.check_record.specs.Checked.{checked_record}
use Rattle.header.specs.Reads as header
use Rattle.place_item.specs.Item.{item_of}
use Rattle.place.specs.Place.{place_of}
use Rattle.string_value.specs.Rooms.{read_bytes, read_points, write_bytes, write_points}
use Rattle.value.specs.Values.{read_value}
use Rattle.element.specs.Element.{element_bytes, element_points, element_value}
use Rattle.npy_codes.specs.Codes.{Returns, one_number, order_for, type_for, type_values, text_values, header_values, summary_values, run_values}
use Rattle.npy_codes.specs.Values.{value_values}
use Rattle.npy.specs.Calls as npy
use Rattle.npy.specs.Feeding.{FeedsByInC, EndsInC}
use Rattle.claims.specs.Functions.{ByGrammar}

-- ---- reading a header
-- `npy_read_held`
pub record NpyReadHeld (longer : Bool) (file : List ℕ) (l : Lent) (said : List ℕ) (r : ℕ) (l' : Lent) (said' : List ℕ) : Type 0 where
  pub answered : ByGrammar (λ reading. Returns header_values (each header.header_info (held_by reading longer file l)) said r said')
  pub after : ByGrammar (λ reading. l' ≡ afterwards holding_header (held_by reading longer file l) l)

-- `npy_read`
abbrev pub NpyRead : (file : List ℕ) (l : Lent) (said : List ℕ) (r : ℕ) (l' : Lent) (said' : List ℕ) → Type 0
NpyRead = NpyReadHeld false

-- `npy_read_text`
pub record NpyReadText (text : List ℕ) (l : Lent) (said : List ℕ) (r : ℕ) (l' : Lent) (said' : List ℕ) : Type 0 where
  pub answered : ByGrammar (λ reading. Returns text_values (each header.info_of (text_by reading text l)) said r said')
  pub after : ByGrammar (λ reading. l' ≡ afterwards holding (text_by reading text l) l)

-- ---- a header that arrives part by part: `numbers` are the twenty of a feeder, `text` is the text buffer, `used` the number lent for the bytes used; the bytes of the part and of the text buffer are below 256, as every uint8_t is
-- `npy_feed`
pub record NpyFeed (numbers part text : List ℕ) (l : Lent) (said used : List ℕ) (r : ℕ) (numbers' text' : List ℕ) (l' : Lent) (said' used' : List ℕ) : Type 0 where
  pub part_bytes : AllBytes part
  pub text_bytes : AllBytes text
  pub feeds : ByGrammar (λ reading. FeedsByInC reading numbers part text l said used r numbers' text' l' said' used')

-- `npy_feed_end`
abbrev pub NpyFeedEnd : (numbers said : List ℕ) (r : ℕ) (numbers' said' : List ℕ) → Type 0
NpyFeedEnd = EndsInC

-- ---- a caller's record; the numbers of its table and shape are below 2^64, as every uint64_t is
-- `npy_check`
pub record NpyCheck (t ns s : List ℕ) (order : ℕ) (said : List ℕ) (r : ℕ) (said' : List ℕ) : Type 0 where
  pub small_table : Small t
  pub small_shape : Small s
  pub answered : Returns summary_values (then (order_for order) (λ o. each summary (checked_record t ns s o))) said r said'

-- `npy_write_header`
pub record NpyWriteHeader (t ns s : List ℕ) (order : ℕ) (out count : List ℕ) (r : ℕ) (out' count' : List ℕ) : Type 0 where
  pub small_table : Small t
  pub small_shape : Small s
  pub writes : npy.WritesInC t ns s order out count r out' count'

-- `npy_list`
abbrev pub NpyList : (version start : ℕ) (t ns s : List ℕ) (order : ℕ) (out count : List ℕ) (r : ℕ) (out' count' : List ℕ) → Type 0
NpyList = npy.ListsInC

-- ---- items and places
-- `npy_count`
abbrev pub NpyCount : (s : List ℕ) (order : ℕ) (count : List ℕ) (r : ℕ) (count' : List ℕ) → Type 0
NpyCount s order = Returns one_number (then (order_for order) (λ o. item_count o s))

-- `npy_strides`
abbrev pub NpyStrides : (s : List ℕ) (order : ℕ) (out count : List ℕ) (r : ℕ) (out' count' : List ℕ) → Type 0
NpyStrides = npy.StridesInC

-- `npy_item_number`
abbrev pub NpyItemNumber : (s : List ℕ) (order : ℕ) (x item : List ℕ) (r : ℕ) (item' : List ℕ) → Type 0
NpyItemNumber s order x = Returns one_number (then (order_for order) (λ o. item_of o s x))

-- `npy_place`
abbrev pub NpyPlace : (file start : ℕ) (t ns s : List ℕ) (order : ℕ) (x p run : List ℕ) (r : ℕ) (run' : List ℕ) → Type 0
NpyPlace file start t ns s order x p = Returns run_values (then (order_for order) (λ o. place_of file start t ns s o x p))

-- ---- elements
-- `npy_element_bytes`, `npy_element_points`
abbrev pub NpyElementBytes :
    (file : List ℕ) (start : ℕ) (t ns s : List ℕ) (order : ℕ) (x p out count : List ℕ) (r : ℕ) (out' count' : List ℕ) → Type 0
NpyElementBytes file start t ns s order x p out = npy.Puts (then (order_for order) (λ o. element_bytes file start t ns s o x p out)) out

abbrev pub NpyElementPoints :
    (file : List ℕ) (start : ℕ) (t ns s : List ℕ) (order : ℕ) (x p out count : List ℕ) (r : ℕ) (out' count' : List ℕ) → Type 0
NpyElementPoints file start t ns s order x p out = npy.Puts (then (order_for order) (λ o. element_points file start t ns s o x p out)) out

-- `npy_read_bytes`, `npy_read_points`, `npy_write_bytes`, `npy_write_points`
abbrev pub NpyReadBytes : (run : List ℕ) (order letter size units : ℕ) (out count : List ℕ) (r : ℕ) (out' count' : List ℕ) → Type 0
NpyReadBytes run order letter size units out = npy.Puts (then (type_for order letter size units) (λ k. read_bytes k run out)) out

abbrev pub NpyReadPoints : (run : List ℕ) (order letter size units : ℕ) (out count : List ℕ) (r : ℕ) (out' count' : List ℕ) → Type 0
NpyReadPoints run order letter size units out = npy.Puts (then (type_for order letter size units) (λ k. read_points k run out)) out

abbrev pub NpyWriteBytes : (order letter size units : ℕ) (value out count : List ℕ) (r : ℕ) (out' count' : List ℕ) → Type 0
NpyWriteBytes order letter size units value out = npy.Puts (then (type_for order letter size units) (λ k. write_bytes k value out)) out

abbrev pub NpyWritePoints : (order letter size units : ℕ) (value out count : List ℕ) (r : ℕ) (out' count' : List ℕ) → Type 0
NpyWritePoints order letter size units value out = npy.Puts (then (type_for order letter size units) (λ k. write_points k value out)) out

-- `npy_element_value`, `npy_read_value`; the bytes of the file or the run are below 256, as every uint8_t is
pub record NpyElementValue (file : List ℕ) (start : ℕ) (t ns s : List ℕ) (order : ℕ) (x p said : List ℕ) (r : ℕ) (said' : List ℕ) : Type 0 where
  pub bytes : AllBytes file
  pub answered : Returns value_values (then (order_for order) (λ o. element_value file start t ns s o x p)) said r said'

pub record NpyReadValue (run : List ℕ) (order letter size units : ℕ) (said : List ℕ) (r : ℕ) (said' : List ℕ) : Type 0 where
  pub bytes : AllBytes run
  pub answered : Returns value_values (then (type_for order letter size units) (λ k. read_value k run)) said r said'

-- ---- types
-- `npy_type_read`
abbrev pub NpyTypeRead : (text said : List ℕ) (r : ℕ) (said' : List ℕ) → Type 0
NpyTypeRead text = Returns type_values (type_string text)

-- `npy_type_print`
abbrev pub NpyTypePrint : (order letter size units : ℕ) (out count : List ℕ) (r : ℕ) (out' count' : List ℕ) → Type 0
NpyTypePrint = npy.PrintsInC
