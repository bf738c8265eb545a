-- One predicate for each function of the Rattle crates that a customer calls: what a call has returned, and what all that was lent then holds. The claims speak of these
-- predicates, and src/lib.rt has for each of them a function that calls the customer's function with the same arguments and promises the predicate; so the checker holds
-- each claim to the function that it speaks of. t, ns, s and o are a caller's table, names, shape and order, p a path, l the three lent rooms of a reader,
-- `room` or `out` one lent room; primed names are what was lent, after the call. The readers' predicates mention no reader: they hold with every reading of
-- texts that keeps the grammar's promise (`Keeps`, record/specs/Header.antt), and Grammar.antt claims that there is one.
use Rattle.value.specs.declared.Value.{Value}
use Rattle.header.specs.declared.RecordInfo.{RecordInfo}
use Rattle.counts.specs.declared.Points.{Points}
use Rattle.place_area.specs.declared.Run.{Run}
use Rattle.counts.specs.declared.Items.{Items}
use Rattle.header.specs.declared.Header.{Header}
use Rattle.check_record.specs.declared.Summary.{Summary}
use Rattle.refusal.specs.declared.Refusal.{Refusal}
use Rattle.std.specs.Prelude.{ℕ, ◌≡◌, Bool, false, List, ltb, length, take, Result, Option}
use Rattle.counts.specs.declared.Bytes.{Bytes}
use Rattle.counts.specs.Lists.{at_front, AllBytes}
use Rattle.counts.specs.Outcome.{then, each, afterwards}
use Rattle.counts.specs.Owes.{Owes}
use Rattle.refusal.specs.Answers.{items_answer, bytes_answer, points_answer, answer}
use Rattle.utf8_scalar.specs.Answer.{Encodes}
use Rattle.type_str.specs.declared.TypeStr.{TypeStr}
use Rattle.type_str.specs.TypeString.{type_string}
use Rattle.type_print.specs.Printed.{Prints}
use Rattle.dtype.specs.declared.Order.{Order}
use Rattle.shape.specs.Count.{item_count, WritesStrides}
use Rattle.record.specs.Prefix.{Version}
use Rattle.record.specs.Rooms.{Lent, holding}
use Rattle.record.specs.Header.{Reading, Keeps, text_by, held_by, holding_header}
use Rattle.record.specs.Sound.{Small}
use Rattle.check_record.specs.Answer as check_record
use Rattle.check_record.specs.Checked.{checked_record}
use Rattle.header.specs.Reads as header
use Rattle.header_feed.specs.declared.Feeder.{Feeder}
use Rattle.header_feed.specs.declared.Feeding.{Feeding}
use Rattle.header_feed.specs.Feeds.{FeedsBy, fresh_feeder, Ends}
use Rattle.write.specs.Writes.{WritesHeader}
use Rattle.list_record.specs.Answer.{Lists}
use Rattle.list_file.specs.Report.{WritesText, held_most, fresh, text_for}
use Rattle.list_file.specs.Said.{WritesSaid}
use Rattle.place_item.specs.Item.{item_of}
use Rattle.place.specs.Place.{placed, place_of}
use Rattle.string_value.specs.Rooms.{read_bytes, read_points, write_bytes, write_points}
use Rattle.value.specs.Values.{read_value}
use Rattle.element.specs.Element.{element_bytes, element_points, element_value}
use Rattle.element_text.specs.Puts.{PutsElement}
use Rattle.get_file.specs.Found.{ample}
use Rattle.get_file.specs.Numbers.{numbers_in, listed_answer}

-- a statement of every reading that keeps the promise
abbrev pub ByGrammar : (Reading → Type 0) → Type 0
ByGrammar Says = (reading : Reading) → Keeps reading → Says reading

-- ---- reading a header
-- `header::read_held`: of the first bytes of a file, which is longer or is not
pub record ReadHeld (longer : Bool) (file : List ℕ) (l : Lent) (x : Result Header Refusal) (l' : Lent) : Type 0 where
  pub answered : ByGrammar (λ reading. header.header_answer x ≡ each header.header_info (held_by reading longer file l))
  pub after : ByGrammar (λ reading. l' ≡ afterwards holding_header (held_by reading longer file l) l)

-- `header::read`: of a whole file
abbrev pub Read : (file : List ℕ) (l : Lent) (x : Result Header Refusal) (l' : Lent) → Type 0
Read = ReadHeld false

-- `header::read_text`
pub record ReadText (text : List ℕ) (l : Lent) (x : Result RecordInfo Refusal) (l' : Lent) : Type 0 where
  pub answered : ByGrammar (λ reading. answer x ≡ each header.info_of (text_by reading text l))
  pub after : ByGrammar (λ reading. l' ≡ afterwards holding (text_by reading text l) l)

-- ---- a header that arrives part by part
-- `header_feed::start`
abbrev pub FeedStart : (f : Feeder) → Type 0
FeedStart f = f ≡ fresh_feeder

-- `header_feed::feed`: a part, the text buffer and the three rooms
abbrev pub Feed : (f : Feeder) (part text : List ℕ) (l : Lent) (x : Feeding) (text' : List ℕ) (l' : Lent) → Type 0
Feed f part text l x text' l' = ByGrammar (λ reading. FeedsBy reading f part text l x text' l')

-- `header_feed::end`
abbrev pub FeedEnd : (f f' : Feeder) → Type 0
FeedEnd = Ends

-- ---- the listing program
-- what is printed of a file, by any reading of texts
abbrev pub report_by : Reading → (file : List ℕ) → List ℕ
report_by reading file = text_for (held_by reading (ltb held_most (length file)) (take held_most file) fresh)

-- `list_file::report`
abbrev pub Report : (file out : List ℕ) (x : Result Bytes Refusal) (out' : List ℕ) → Type 0
Report file out x out' = ByGrammar (λ reading. WritesText (report_by reading file) out x out')

-- `list_file::report_whole`: the same with room for every text, so with no refusal
pub record ReportWhole (file out : List ℕ) (n : Bytes) (out' : List ℕ) : Type 0 where
  pub answered : ByGrammar (λ reading. n.0 ≡ length (report_by reading file))
  pub after : ByGrammar (λ reading. out' ≡ at_front (report_by reading file) out)

-- `list_file::put_read`: of what a reading says, and the rooms that it was read to
abbrev pub PutRead : (said : Result Header Refusal) (l : Lent) (out : List ℕ) (x : Result Bytes Refusal) (out' : List ℕ) → Type 0
PutRead = WritesSaid

-- ---- the program that prints one element
-- `get_file::find`: of the first bytes of a file of this length, which is longer or is not
abbrev pub Find : (longer : Bool) (held : List ℕ) (file : ℕ) (x p : List ℕ) (y : Result Run Refusal) → Type 0
Find longer held file x p y = ByGrammar (λ reading. answer y ≡ then (held_by reading longer held ample) (λ h. placed file h.data_start h.says x p))

-- `get_file::numbers`
abbrev pub NumbersListed : (text out : List ℕ) (y : Option ℕ) (out' : List ℕ) → Type 0
NumbersListed text out y = Owes (numbers_in text out) out (listed_answer y)

-- `element_text::put`
abbrev pub PutElement : (run : List ℕ) (k : TypeStr) (out : List ℕ) (y : Result Bytes Refusal) (out' : List ℕ) → Type 0
PutElement run k = PutsElement k run

-- ---- a caller's record; the numbers of its table and shape are below 2^64, as every u64 is
-- `check_record::check`
pub record Check (t ns s : List ℕ) (o : Order) (x : Result Summary Refusal) : Type 0 where
  pub small_table : Small t
  pub small_shape : Small s
  pub answered : answer x ≡ each check_record.summary (checked_record t ns s o)

-- `write::write_header`
pub record WriteHeader (t ns s : List ℕ) (o : Order) (out : List ℕ) (x : Result Bytes Refusal) (out' : List ℕ) : Type 0 where
  pub small_table : Small t
  pub small_shape : Small s
  pub writes : WritesHeader t ns s o out x out'

-- `list_record::list`
abbrev pub ListRecord : (v : Version) (start : ℕ) (t ns s : List ℕ) (o : Order) (out : List ℕ) (x : Result Bytes Refusal) (out' : List ℕ) → Type 0
ListRecord = Lists

-- ---- items and places
-- `shape::count`
abbrev pub Count : (s : List ℕ) (o : Order) (x : Result Items Refusal) → Type 0
Count s o x = items_answer x ≡ item_count o s

-- `shape::strides`
abbrev pub Strides : (s : List ℕ) (o : Order) (out : List ℕ) (x : Result Items Refusal) (out' : List ℕ) → Type 0
Strides s o = WritesStrides o s

-- `place_item::item_number`
abbrev pub ItemNumber : (s : List ℕ) (o : Order) (x : List ℕ) (y : Result Items Refusal) → Type 0
ItemNumber s o x y = items_answer y ≡ item_of o s x

-- `place::place`
abbrev pub Place : (file start : ℕ) (t ns s : List ℕ) (o : Order) (x p : List ℕ) (y : Result Run Refusal) → Type 0
Place file start t ns s o x p y = answer y ≡ place_of file start t ns s o x p

-- ---- elements
-- `element::read_bytes`, `element::read_points`
abbrev pub ElementBytes : (file : List ℕ) (start : ℕ) (t ns s : List ℕ) (o : Order) (x p out : List ℕ) (y : Result Bytes Refusal) (out' : List ℕ) → Type 0
ElementBytes file start t ns s o x p out y = Owes (element_bytes file start t ns s o x p out) out (bytes_answer y)

abbrev pub ElementPoints : (file : List ℕ) (start : ℕ) (t ns s : List ℕ) (o : Order) (x p out : List ℕ) (y : Result Points Refusal) (out' : List ℕ) → Type 0
ElementPoints file start t ns s o x p out y = Owes (element_points file start t ns s o x p out) out (points_answer y)

-- `string_element::read_bytes`, `read_points`, `write_bytes`, `write_points`
abbrev pub ReadBytes : (run : List ℕ) (k : TypeStr) (out : List ℕ) (y : Result Bytes Refusal) (out' : List ℕ) → Type 0
ReadBytes run k out y = Owes (read_bytes k run out) out (bytes_answer y)

abbrev pub ReadPoints : (run : List ℕ) (k : TypeStr) (out : List ℕ) (y : Result Points Refusal) (out' : List ℕ) → Type 0
ReadPoints run k out y = Owes (read_points k run out) out (points_answer y)

abbrev pub WriteBytes : (k : TypeStr) (value out : List ℕ) (y : Result Bytes Refusal) (out' : List ℕ) → Type 0
WriteBytes k value out y = Owes (write_bytes k value out) out (bytes_answer y)

abbrev pub WritePoints : (k : TypeStr) (value out : List ℕ) (y : Result Bytes Refusal) (out' : List ℕ) → Type 0
WritePoints k value out y = Owes (write_points k value out) out (bytes_answer y)

-- `element::read_value`, `value::read`; the bytes of the file or the run are below 256, as every u8 is
pub record ElementValue (file : List ℕ) (start : ℕ) (t ns s : List ℕ) (o : Order) (x p : List ℕ) (y : Result Value Refusal) : Type 0 where
  pub bytes : AllBytes file
  pub answered : answer y ≡ element_value file start t ns s o x p

pub record ReadValue (run : List ℕ) (k : TypeStr) (y : Result Value Refusal) : Type 0 where
  pub bytes : AllBytes run
  pub answered : answer y ≡ read_value k run

-- ---- types and characters
-- `type_read::parse`
abbrev pub TypeIsRead : (text : List ℕ) (x : Result TypeStr Refusal) → Type 0
TypeIsRead text x = answer x ≡ type_string text

-- `type_print::print`
abbrev pub TypeIsPrinted : (k : TypeStr) (out : List ℕ) (x : Result Bytes Refusal) (out' : List ℕ) → Type 0
TypeIsPrinted = Prints

-- `utf8_scalar::encode`
abbrev pub Encode : (value : ℕ) (out : List ℕ) (x : Result Bytes Refusal) (out' : List ℕ) → Type 0
Encode = Encodes
