-- Document 01, "The refusal numbers": "On success, room beyond what was needed is unchanged." One line for each function that a customer calls and that is lent room for a
-- result; those of the C interface are in Codes.antt, and that of a feeder in Cuts.antt. If n bytes or numbers were written, the room after the first n is unchanged. l and l' are the three lent rooms before
-- and after the call, room and room' one room; t, ns, s and o are a caller's table, names, shape and order, x an index and p a path.
use Rattle.counts.specs.declared.Items.{Items}
use Rattle.refusal.specs.declared.Refusal.{Refusal}
use Rattle.std.specs.Prelude.{ℕ, ◌*◌, ◌≡◌, Bool, List, length, drop, Ok, Result}
use Rattle.refusal.specs.Answers.{items_answer, bytes_answer, points_answer}
use Rattle.counts.specs.Outcome.{Outcome, gives}
use Rattle.type_str.specs.declared.TypeStr.{TypeStr}
use Rattle.dtype.specs.declared.Order.{Order}
use Rattle.dtype.specs.Record.{entry_width}
use Rattle.record.specs.Prefix.{Version}
use Rattle.record.specs.Rooms.{Lent}
use Rattle.header.specs.declared.RecordInfo.{RecordInfo}
use Rattle.header.specs.declared.Header.{Header}
use Rattle.claims.specs.Functions.{ReadHeld, ReadText, Report, PutRead, WriteHeader, ListRecord, Strides, ElementBytes, ElementPoints, ReadBytes, ReadPoints, WriteBytes, WritePoints, TypeIsPrinted, Encode}

-- the three rooms of a reader, beyond the entries, name bytes and dimensions that it stored
pub record SameRest (info : RecordInfo) (l l' : Lent) : Type 0 where
  pub table_rest : drop (entry_width * info.entries) l'.table ≡ drop (entry_width * info.entries) l.table
  pub names_rest : drop info.names l'.names ≡ drop info.names l.names
  pub shape_rest : drop info.rank l'.shape ≡ drop info.rank l.shape

-- one room, beyond the n that the answer says were written
abbrev pub Spares : {A : Type 0} → (answer : A → Outcome ℕ) → (Call : A → List ℕ → Type 0) → (before : List ℕ) → Type 0
Spares {A} answer Call before = (x : A) (after : List ℕ) (n : ℕ) → Call x after → answer x ≡ gives n → drop n after ≡ drop n before

-- the claim
pub record RestUnchanged : Type 0 where
  -- `header::read_held`, `read`, which is the same of a file that is not longer, and `read_text`
  pub read_held : (longer : Bool) (file : List ℕ) (l l' : Lent) (h : Header) → ReadHeld longer file l (Ok h) l' → SameRest h.info l l'
  pub read_text : (text : List ℕ) (l l' : Lent) (info : RecordInfo) → ReadText text l (Ok info) l' → SameRest info l l'
  -- `write::write_header`, `list_record::list`, `list_file::report`, `list_file::put_read`
  pub write_header : (t ns s : List ℕ) (o : Order) (out : List ℕ) → Spares bytes_answer (WriteHeader t ns s o out) out
  pub list : (v : Version) (start : ℕ) (t ns s : List ℕ) (o : Order) (out : List ℕ) → Spares bytes_answer (ListRecord v start t ns s o out) out
  pub report : (file out : List ℕ) → Spares bytes_answer (Report file out) out
  pub put_read : (said : Result Header Refusal) (l : Lent) (out : List ℕ) → Spares bytes_answer (PutRead said l out) out
  -- `string_element::read_bytes`, `read_points`, `write_bytes`, `write_points`
  pub read_bytes : (run : List ℕ) (k : TypeStr) (out : List ℕ) → Spares bytes_answer (ReadBytes run k out) out
  pub read_points : (run : List ℕ) (k : TypeStr) (out : List ℕ) → Spares points_answer (ReadPoints run k out) out
  pub write_bytes : (k : TypeStr) (value out : List ℕ) → Spares bytes_answer (WriteBytes k value out) out
  pub write_points : (k : TypeStr) (value out : List ℕ) → Spares bytes_answer (WritePoints k value out) out
  -- `element::read_bytes`, `read_points`
  pub element_bytes : (file : List ℕ) (start : ℕ) (t ns s : List ℕ) (o : Order) (x p out : List ℕ) → Spares bytes_answer (ElementBytes file start t ns s o x p out) out
  pub element_points : (file : List ℕ) (start : ℕ) (t ns s : List ℕ) (o : Order) (x p out : List ℕ) → Spares points_answer (ElementPoints file start t ns s o x p out) out
  -- `type_print::print`, `utf8_scalar::encode`
  pub print : (k : TypeStr) (out : List ℕ) → Spares bytes_answer (TypeIsPrinted k out) out
  pub encode : (value : ℕ) (out : List ℕ) → Spares bytes_answer (Encode value out) out
  -- `shape::strides`: it writes one number for each dimension, and its answer is the item count
  pub strides : (s : List ℕ) (o : Order) (out : List ℕ) (x : Result Items Refusal) (out' : List ℕ) (n : ℕ) → Strides s o out x out' → items_answer x ≡ gives n
      → drop (length s) out' ≡ drop (length s) out
