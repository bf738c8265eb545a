-- How an outcome is returned in C: 0 and its values, or the refusal's number, with the room for the values as it was. Document 01, "The refusal numbers": "Each returns
-- its number only; every lent buffer stays unchanged."
-- The numbers of the C interface: how a caller names an order, a version and a type, and the values of each answer. An order is 0 for C and 1 for Fortran; a version is its major byte; a type is the four numbers of
-- its entry in the dtype table. A number that names none is refused: an order or a type with 27, document 01's "caller's record or type that no reading gives"; a version
-- with 2, "other version" (`version_of` of crate record). The values of an answer are in the order in which include/npy.h lists them.
use Rattle.counts.specs.declared.Bytes.{Bytes}
use Rattle.std.specs.Prelude.{ℕ, ◌≡◌, List, [], ◌∷◌, cond, eqb, None, Some, Option}
use Rattle.counts.specs.Outcome.{Outcome, gives, refused, afterwards}
use Rattle.type_str.specs.declared.TypeStr.{TypeStr}
use Rattle.dtype.specs.declared.Order.{Order}
use Rattle.dtype.specs.declared.Order.TheVariants.{C, Fortran}
use Rattle.table_entry.specs.EntryType.{type_of}
use Rattle.dtype.specs.TypeNumbers.{order_byte, letter_byte, units_number}
use Rattle.record.specs.Prefix.{major}
use Rattle.check_record.specs.declared.Summary.{Summary}
use Rattle.place_area.specs.declared.Run.{Run}
use Rattle.header.specs.declared.RecordInfo.{RecordInfo}
use Rattle.header.specs.Reads.{HeaderInfo}

-- the return value: 0, or the number of the refusal
abbrev pub code : {A : Type 0} → Outcome A → ℕ
code (gives a) = 0
code (refused n) = n

-- the outcome o as a C function reports it: r is returned, and the room for the values then holds room'
pub record Returns {A : Type 0} (values : A → List ℕ) (o : Outcome A) (room : List ℕ) (r : ℕ) (room' : List ℕ) : Type 0 where
  pub answered : r ≡ code o
  pub after : room' ≡ afterwards (λ a old. values a) o room

-- the values of an outcome that is one number
abbrev pub one_number : ℕ → List ℕ
one_number n = n ∷ []

-- the number of an order
abbrev pub order_number : Order → ℕ
order_number C = 0
order_number Fortran = 1

-- the order that a number names, or 27
abbrev pub order_for : ℕ → Outcome Order
order_for n = cond (eqb n 0) (gives C) (cond (eqb n 1) (gives Fortran) (refused 27))

-- the type of a plain entry with these numbers, or 27
abbrev pub type_for : (order letter size units : ℕ) → Outcome TypeStr
type_for order letter size units =
    type_of (record { parent = 0; kind = 0; order = order; letter = letter; number = size; units = units; extent = 0; bytes = 0; name = 0 })

-- a type: its byte order, its letter, its size, its units
abbrev pub type_values : TypeStr → List ℕ
type_values t = order_byte t.order ∷ letter_byte t.letter ∷ t.size ∷ units_number t.units ∷ []

-- the record of a text: order, rank, entries, name bytes
abbrev pub text_values : RecordInfo → List ℕ
text_values i = order_number i.order ∷ i.rank ∷ i.entries ∷ i.names ∷ []

-- a header: version, the record's order, rank, entries and name bytes, where the data starts
abbrev pub header_values : HeaderInfo → List ℕ
header_values h = major h.version ∷ order_number h.info.order ∷ h.info.rank ∷ h.info.entries ∷ h.info.names ∷ h.data_start ∷ []

-- 1 and the item size, or 0 and 0
abbrev pub size_values : Option Bytes → List ℕ → List ℕ
size_values (Some n) x = 1 ∷ n.0 ∷ x
size_values None x = 0 ∷ 0 ∷ x

-- a checked record: rank, entries, whether there is an item size, the item size, the item count
abbrev pub summary_values : Summary → List ℕ
summary_values s = s.rank ∷ s.entries ∷ size_values s.size (s.count.0 ∷ [])

-- a place: the first byte, how many, the type
abbrev pub run_values : Run → List ℕ
run_values u = u.first.0 ∷ u.len.0 ∷ type_values u.kind
