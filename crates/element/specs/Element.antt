-- Document 01, "The refusal numbers": "A string element is read after its place: 29, 23." The element's bytes are those of its place; what they mean, 26 for
-- another type, 29 and 23 are string_value/specs/Rooms.antt, and all refusals before them place/specs/Place.antt. No element has the 27 of Rooms.antt: a place has a type
-- that readings give (proofs/Typed.antt).
use Rattle.std.specs.Prelude.{ℕ, List, length}
use Rattle.counts.specs.Outcome.{Outcome, then}
use Rattle.dtype.specs.declared.Order.{Order}
use Rattle.place.specs.Place.{place_of}
use Rattle.string_value.specs.Rooms.{read_bytes, read_points}
use Rattle.value.specs.declared.Value.{Value}
use Rattle.value.specs.Values.{read_value}
use Rattle.element.specs.Bytes.{run_bytes}

-- ---- what goes to the room, or the first refusal

-- of an element of S or V
unfoldable pub element_bytes : (file : List ℕ) (start : ℕ) (table names shape : List ℕ) → Order → (index path room : List ℕ) → Outcome (List ℕ)
element_bytes file start t ns s o x p room = then (place_of (length file) start t ns s o x p) (λ u. read_bytes u.kind (run_bytes file u) room)

-- of an element of U
unfoldable pub element_points : (file : List ℕ) (start : ℕ) (table names shape : List ℕ) → Order → (index path room : List ℕ) → Outcome (List ℕ)
element_points file start t ns s o x p room = then (place_of (length file) start t ns s o x p) (λ u. read_points u.kind (run_bytes file u) room)

-- Document 02, wish 1: "Give the element at a place as a value", and of its refusals 31 and 32 "both after 26, 31 first". Those of the place come first, and no element has the 27 of
-- `read_value`: a place has a type that readings give, and as many bytes as that type (`value_after`, proofs/Typed.antt)
unfoldable pub element_value : (file : List ℕ) (start : ℕ) (table names shape : List ℕ) → Order → (index path : List ℕ) → Outcome Value
element_value file start t ns s o x p = then (place_of (length file) start t ns s o x p) (λ u. read_value u.kind (run_bytes file u))
