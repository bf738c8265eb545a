-- Demand 1. Document 01, "The refusal numbers": "Each returns its number only; every lent buffer stays unchanged." One line for each function that a customer calls and that
-- is lent memory to write to; those of the C interface are in Codes.antt, and those of a feeder, whose text buffer is excepted, in Cuts.antt. Whatever satisfies the function's predicate and is a refusal has left the lent memory unchanged.
-- l is the three lent rooms of a reader; t, ns, s and o are a caller's table, names, shape and order, x an index and p a path.
use Rattle.refusal.specs.declared.Refusal.{Refusal}
use Rattle.header.specs.declared.Header.{Header}
use Rattle.std.specs.Prelude.{ℕ, ◌≡◌, Bool, List, Result}
use Rattle.refusal.specs.Answers.{items_answer, bytes_answer, points_answer, answer}
use Rattle.counts.specs.Outcome.{Outcome, refused}
use Rattle.type_str.specs.declared.TypeStr.{TypeStr}
use Rattle.dtype.specs.declared.Order.{Order}
use Rattle.record.specs.Prefix.{Version}
use Rattle.record.specs.Rooms.{Lent}
use Rattle.header.specs.Reads.{header_answer}
use Rattle.get_file.specs.Numbers.{listed_answer}
use Rattle.claims.specs.Functions.{ReadHeld, ReadText, Report, PutRead, WriteHeader, ListRecord, Strides, ElementBytes, ElementPoints, ReadBytes, ReadPoints, WriteBytes, WritePoints, TypeIsPrinted, Encode, NumbersListed, PutElement}

-- of a function with this predicate, from its result and the memory afterwards: if `answer` says that the result is a refusal, the memory is as it was before
abbrev pub Leaves : {A B M : Type 0} → (answer : A → Outcome B) → (Call : A → M → Type 0) → (before : M) → Type 0
Leaves {A} {B} {M} answer Call before = (x : A) (after : M) (k : ℕ) → Call x after → answer x ≡ refused k → after ≡ before

-- the claim
pub record Unchanged : Type 0 where
  -- `header::read_held`, `read`, which is the same of a file that is not longer, and `read_text`: the table, the names and the shape
  pub read_held : (longer : Bool) (file : List ℕ) (l : Lent) → Leaves header_answer (ReadHeld longer file l) l
  pub read_text : (text : List ℕ) (l : Lent) → Leaves answer (ReadText text l) l
  -- `write::write_header`, `list_record::list`, `list_file::report`
  pub write_header : (t ns s : List ℕ) (o : Order) (out : List ℕ) → Leaves bytes_answer (WriteHeader t ns s o out) out
  pub list : (v : Version) (start : ℕ) (t ns s : List ℕ) (o : Order) (out : List ℕ) → Leaves bytes_answer (ListRecord v start t ns s o out) out
  pub report : (file out : List ℕ) → Leaves bytes_answer (Report file out) out
  -- `list_file::put_read`, `get_file::numbers`, `element_text::put`
  pub put_read : (said : Result Header Refusal) (l : Lent) (out : List ℕ) → Leaves bytes_answer (PutRead said l out) out
  pub numbers_listed : (text out : List ℕ) → Leaves listed_answer (NumbersListed text out) out
  pub put_element : (run : List ℕ) (k : TypeStr) (out : List ℕ) → Leaves bytes_answer (PutElement run k out) out
  -- `string_element::read_bytes`, `read_points`, `write_bytes`, `write_points`
  pub read_bytes : (run : List ℕ) (k : TypeStr) (out : List ℕ) → Leaves bytes_answer (ReadBytes run k out) out
  pub read_points : (run : List ℕ) (k : TypeStr) (out : List ℕ) → Leaves points_answer (ReadPoints run k out) out
  pub write_bytes : (k : TypeStr) (value out : List ℕ) → Leaves bytes_answer (WriteBytes k value out) out
  pub write_points : (k : TypeStr) (value out : List ℕ) → Leaves bytes_answer (WritePoints k value out) out
  -- `element::read_bytes`, `read_points`
  pub element_bytes : (file : List ℕ) (start : ℕ) (t ns s : List ℕ) (o : Order) (x p out : List ℕ) → Leaves bytes_answer (ElementBytes file start t ns s o x p out) out
  pub element_points : (file : List ℕ) (start : ℕ) (t ns s : List ℕ) (o : Order) (x p out : List ℕ) → Leaves points_answer (ElementPoints file start t ns s o x p out) out
  -- `type_print::print`, `shape::strides`, `utf8_scalar::encode`
  pub print : (k : TypeStr) (out : List ℕ) → Leaves bytes_answer (TypeIsPrinted k out) out
  pub strides : (s : List ℕ) (o : Order) (out : List ℕ) → Leaves items_answer (Strides s o out) out
  pub encode : (value : ℕ) (out : List ℕ) → Leaves bytes_answer (Encode value out) out
