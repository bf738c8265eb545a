-- Document 01, "What counts as an answer": "Every public function states its complete result and the final content of each buffer, for refused input too; that no second outcome
-- satisfies the statement is itself proved". So of the predicates that the claims speak of: for each function that a customer calls, one result and one content of all
-- that was lent satisfies its predicate, and no second. That there is one is what src/lib.rt shows.
use Rattle.refusal.specs.declared.Refusal.{Refusal}
use Rattle.header.specs.declared.Header.{Header}
use Rattle.std.specs.Prelude.{ℕ, Bool, List, Result}
use Rattle.counts.specs.OneOutcome.{OneOutcome}
use Rattle.type_str.specs.declared.TypeStr.{TypeStr}
use Rattle.dtype.specs.declared.Order.{Order}
use Rattle.record.specs.Prefix.{Version}
use Rattle.record.specs.Rooms.{Lent}
use Rattle.header_feed.specs.declared.Feeder.{Feeder}
use Rattle.header_feed.specs.declared.Feeding.{Feeding}
use Rattle.claims.specs.Functions as rattle
use Rattle.claims.specs.InC as c

-- a result x and one lent room or group of rooms, after the call
abbrev pub Beside : {X M : Type 0} → (X → M → Type 0) → Type 0
Beside {X} {M} Call = OneOutcome {A = X × M} (λ y. Call y.0 y.1)

-- a number, a lent room or group of rooms, and the numbers lent for the values
abbrev pub BesideBoth : {M : Type 0} → (ℕ → M → List ℕ → Type 0) → Type 0
BesideBoth {M} Call = OneOutcome {A = (ℕ × M) × List ℕ} (λ y. Call y.0.0 y.0.1 y.1)

-- the claim, of the Rattle functions
pub record OneOutcomeEach : Type 0 where
  pub read : (file : List ℕ) (l : Lent) → Beside (rattle.Read file l)
  pub read_held : (longer : Bool) (file : List ℕ) (l : Lent) → Beside (rattle.ReadHeld longer file l)
  pub read_text : (text : List ℕ) (l : Lent) → Beside (rattle.ReadText text l)
  pub feed_start : OneOutcome rattle.FeedStart
  pub feed : (f : Feeder) (part text : List ℕ) (l : Lent) → OneOutcome {A = (Feeding × List ℕ) × Lent} (λ y. rattle.Feed f part text l y.0.0 y.0.1 y.1)
  pub feed_end : (f : Feeder) → OneOutcome (rattle.FeedEnd f)
  pub report : (file out : List ℕ) → Beside (rattle.Report file out)
  pub report_whole : (file out : List ℕ) → Beside (rattle.ReportWhole file out)
  pub put_read : (said : Result Header Refusal) (l : Lent) (out : List ℕ) → Beside (rattle.PutRead said l out)
  pub find : (longer : Bool) (held : List ℕ) (file : ℕ) (x p : List ℕ) → OneOutcome (rattle.Find longer held file x p)
  pub numbers_listed : (text out : List ℕ) → Beside (rattle.NumbersListed text out)
  pub put_element : (run : List ℕ) (k : TypeStr) (out : List ℕ) → Beside (rattle.PutElement run k out)
  pub check : (t ns s : List ℕ) (o : Order) → OneOutcome (rattle.Check t ns s o)
  pub write_header : (t ns s : List ℕ) (o : Order) (out : List ℕ) → Beside (rattle.WriteHeader t ns s o out)
  pub list : (v : Version) (start : ℕ) (t ns s : List ℕ) (o : Order) (out : List ℕ) → Beside (rattle.ListRecord v start t ns s o out)
  pub count : (s : List ℕ) (o : Order) → OneOutcome (rattle.Count s o)
  pub strides : (s : List ℕ) (o : Order) (out : List ℕ) → Beside (rattle.Strides s o out)
  pub item_number : (s : List ℕ) (o : Order) (x : List ℕ) → OneOutcome (rattle.ItemNumber s o x)
  pub place : (file start : ℕ) (t ns s : List ℕ) (o : Order) (x p : List ℕ) → OneOutcome (rattle.Place file start t ns s o x p)
  pub element_bytes : (file : List ℕ) (start : ℕ) (t ns s : List ℕ) (o : Order) (x p out : List ℕ) → Beside (rattle.ElementBytes file start t ns s o x p out)
  pub element_points : (file : List ℕ) (start : ℕ) (t ns s : List ℕ) (o : Order) (x p out : List ℕ) → Beside (rattle.ElementPoints file start t ns s o x p out)
  pub element_value : (file : List ℕ) (start : ℕ) (t ns s : List ℕ) (o : Order) (x p : List ℕ) → OneOutcome (rattle.ElementValue file start t ns s o x p)
  pub read_value : (run : List ℕ) (k : TypeStr) → OneOutcome (rattle.ReadValue run k)
  pub read_bytes : (run : List ℕ) (k : TypeStr) (out : List ℕ) → Beside (rattle.ReadBytes run k out)
  pub read_points : (run : List ℕ) (k : TypeStr) (out : List ℕ) → Beside (rattle.ReadPoints run k out)
  pub write_bytes : (k : TypeStr) (value out : List ℕ) → Beside (rattle.WriteBytes k value out)
  pub write_points : (k : TypeStr) (value out : List ℕ) → Beside (rattle.WritePoints k value out)
  pub type_read : (text : List ℕ) → OneOutcome (rattle.TypeIsRead text)
  pub type_print : (k : TypeStr) (out : List ℕ) → Beside (rattle.TypeIsPrinted k out)
  pub encode : (value : ℕ) (out : List ℕ) → Beside (rattle.Encode value out)

-- and of the C functions
pub record OneOutcomeInC : Type 0 where
  pub npy_read : (file : List ℕ) (l : Lent) (said : List ℕ) → BesideBoth (c.NpyRead file l said)
  pub npy_read_held : (longer : Bool) (file : List ℕ) (l : Lent) (said : List ℕ) → BesideBoth (c.NpyReadHeld longer file l said)
  pub npy_read_text : (text : List ℕ) (l : Lent) (said : List ℕ) → BesideBoth (c.NpyReadText text l said)
  pub npy_feed : (numbers part text : List ℕ) (l : Lent) (said used : List ℕ)
      → OneOutcome {A = ((((ℕ × List ℕ) × List ℕ) × Lent) × List ℕ) × List ℕ} (λ y. c.NpyFeed numbers part text l said used y.0.0.0.0.0 y.0.0.0.0.1 y.0.0.0.1 y.0.0.1 y.0.1 y.1)
  pub npy_feed_end : (numbers said : List ℕ) → BesideBoth (c.NpyFeedEnd numbers said)
  pub npy_check : (t ns s : List ℕ) (order : ℕ) (said : List ℕ) → Beside (c.NpyCheck t ns s order said)
  pub npy_write_header : (t ns s : List ℕ) (order : ℕ) (out count : List ℕ) → BesideBoth (c.NpyWriteHeader t ns s order out count)
  pub npy_list : (version start : ℕ) (t ns s : List ℕ) (order : ℕ) (out count : List ℕ) → BesideBoth (c.NpyList version start t ns s order out count)
  pub npy_count : (s : List ℕ) (order : ℕ) (count : List ℕ) → Beside (c.NpyCount s order count)
  pub npy_strides : (s : List ℕ) (order : ℕ) (out count : List ℕ) → BesideBoth (c.NpyStrides s order out count)
  pub npy_item_number : (s : List ℕ) (order : ℕ) (x item : List ℕ) → Beside (c.NpyItemNumber s order x item)
  pub npy_place : (file start : ℕ) (t ns s : List ℕ) (order : ℕ) (x p run : List ℕ) → Beside (c.NpyPlace file start t ns s order x p run)
  pub npy_element_bytes : (file : List ℕ) (start : ℕ) (t ns s : List ℕ) (order : ℕ) (x p out count : List ℕ) → BesideBoth (c.NpyElementBytes file start t ns s order x p out count)
  pub npy_element_points : (file : List ℕ) (start : ℕ) (t ns s : List ℕ) (order : ℕ) (x p out count : List ℕ) → BesideBoth (c.NpyElementPoints file start t ns s order x p out count)
  pub npy_element_value : (file : List ℕ) (start : ℕ) (t ns s : List ℕ) (order : ℕ) (x p said : List ℕ) → Beside (c.NpyElementValue file start t ns s order x p said)
  pub npy_read_value : (run : List ℕ) (order letter size units : ℕ) (said : List ℕ) → Beside (c.NpyReadValue run order letter size units said)
  pub npy_read_bytes : (run : List ℕ) (order letter size units : ℕ) (out count : List ℕ) → BesideBoth (c.NpyReadBytes run order letter size units out count)
  pub npy_read_points : (run : List ℕ) (order letter size units : ℕ) (out count : List ℕ) → BesideBoth (c.NpyReadPoints run order letter size units out count)
  pub npy_write_bytes : (order letter size units : ℕ) (value out count : List ℕ) → BesideBoth (c.NpyWriteBytes order letter size units value out count)
  pub npy_write_points : (order letter size units : ℕ) (value out count : List ℕ) → BesideBoth (c.NpyWritePoints order letter size units value out count)
  pub npy_type_read : (text said : List ℕ) → Beside (c.NpyTypeRead text said)
  pub npy_type_print : (order letter size units : ℕ) (out count : List ℕ) → BesideBoth (c.NpyTypePrint order letter size units out count)
