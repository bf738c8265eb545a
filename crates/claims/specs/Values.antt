-- Document 02, "Wish 1. Counter values, not bytes.": where an element has a value, and which; that the value has the exact bits stored; what a half float becomes; when 31 and 32
-- are given. Of `element::read_value` and `npy_element_value`, which read at a place; the first two also of `value::read` and `npy_read_value`, which read bytes by themselves. What the value of
-- some bytes is, is `value_in` of value/specs/Values.antt.
use Rattle.refusal.specs.Answers.{answer}
use Rattle.refusal.specs.declared.Refusal.{Refusal}
use Rattle.std.specs.Prelude.{ℕ, ◌<◌, ◌≡◌, ◌⊎◌, Bool as Truth, true, false, List, [], ◌∷◌, eqb, length, Ok, Result}
use Rattle.counts.specs.Outcome.{gives, refused}
use Rattle.counts.specs.OneOutcome.{OneOutcome}
use Rattle.type_letters.specs.declared.TypeChar.{TypeChar}
use Rattle.type_letters.specs.declared.TypeChar.TheVariants.{Bool as Boolean, Int, Uint, Float as Floating, Complex, TimeDelta, DateTime, ByteStr, UnicodeStr, Object, RawData}
use Rattle.number_bytes.specs.Numbers.{in_order}
use Rattle.type_str.specs.declared.TypeStr.{TypeStr}
use Rattle.type_str.specs.Text.{is_type}
use Rattle.dtype.specs.declared.Order.{Order}
use Rattle.dtype.specs.Record.{Record}
use Rattle.dtype.specs.Places.{place}
use Rattle.place.specs.Place.{run_from, place_of}
use Rattle.value_float.specs.declared.Single.{Single}
use Rattle.value_float.specs.Half.{is_negative, exponent_of, fraction_of, widened}
use Rattle.value_float.specs.Becomes.{HalfBecomes}
use Rattle.value_float.specs.Edges.{HalfEdges}
use Rattle.value_float.specs.FloatEdges.{FloatEdges}
use Rattle.value.specs.declared.Value.{Value}
use Rattle.value.specs.Values.{value_in}
use Rattle.value.specs.Stored.{value_bytes}
use Rattle.value.specs.Sorts.{ValueSort}
use Rattle.value.specs.Edges.{ValueEdges}
use Rattle.element.specs.Bytes.{run_bytes}
use Rattle.npy_codes.specs.Codes.{order_number, type_values}
use Rattle.npy_codes.specs.Values.{value_numbers, value_values, said_bytes}
use Rattle.npy_codes.specs.ValueEdges.{SaidEdges}
use Rattle.claims.specs.Doors.{Door, in_rattle, in_c}
use Rattle.claims.specs.Exact.{Exactly, PlaceIs, ByOrder, ByType}
use Rattle.claims.specs.Functions.{ElementValue, ReadValue}
use Rattle.claims.specs.InC.{NpyElementValue, NpyReadValue}

-- an element: x and p name the place of a plain type k in the data of the caller's record, and `bytes` are the file's bytes there
pub record ElementIs (file : List ℕ) (start : ℕ) (t ns s : List ℕ) (o : Order) (x p : List ℕ) (k : TypeStr) (bytes : List ℕ) : Type 0 where
  pub says : Record
  pub named : PlaceIs (length file) start t ns s o x p says k
  pub are : bytes ≡ run_bytes file (run_from (place start says x p) k)

-- there is an element, and its type and its bytes are as `Is` says
pub record ElementWith (file : List ℕ) (start : ℕ) (t ns s : List ℕ) (o : Order) (x p : List ℕ) (Is : TypeStr → List ℕ → Type 0) : Type 0 where
  pub kind : TypeStr
  pub bytes : List ℕ
  pub element : ElementIs file start t ns s o x p kind bytes
  pub is : Is kind bytes

-- ---- "Give the element at a place as a value"
-- the element has the value v
abbrev pub ValueIs : (file : List ℕ) (start : ℕ) (t ns s : List ℕ) (o : Order) (x p : List ℕ) (v : Value) → Type 0
ValueIs file start t ns s o x p v = ElementWith file start t ns s o x p (λ k bytes. value_in k bytes ≡ gives v)

-- bytes by themselves have the value v: the type is one that readings give, and the run has as many bytes as the type
pub record ValueByItself (run : List ℕ) (k : TypeStr) (v : Value) : Type 0 where
  pub typed : is_type k ≡ true
  pub long : length run ≡ k.size
  pub is : value_in k run ≡ gives v

-- a value is returned exactly where there is one, and it is exactly that one
abbrev pub ValuesExactly : {R : Type 0} → Door Value R → (Due : Value → Type 0) (y : R) → Type 0
ValuesExactly door Due y = Exactly {M = Unit {0}} door Due (λ v. v) (λ v m. m) tt y tt

pub record ValuesExact : Type 0 where
  pub element_value : (file : List ℕ) (start : ℕ) (t ns s : List ℕ) (o : Order) (x p : List ℕ) (y : Result Value Refusal) → ElementValue file start t ns s o x p y
      → ValuesExactly in_rattle (ValueIs file start t ns s o x p) (answer y)
  pub read_value : (run : List ℕ) (k : TypeStr) (y : Result Value Refusal) → ReadValue run k y → ValuesExactly in_rattle (ValueByItself run k) (answer y)

pub record ValuesExactInC : Type 0 where
  pub npy_element_value : (file : List ℕ) (start : ℕ) (t ns s : List ℕ) (order : ℕ) (x p said : List ℕ) (r : ℕ) (said' : List ℕ)
      → NpyElementValue file start t ns s order x p said r said'
      → ValuesExactly (in_c value_values said) (ByOrder order (λ o. ValueIs file start t ns s o x p)) (r, said')
  pub npy_read_value : (run : List ℕ) (order letter size units : ℕ) (said : List ℕ) (r : ℕ) (said' : List ℕ) → NpyReadValue run order letter size units said r said'
      → ValuesExactly (in_c value_values said) (ByType order letter size units (ValueByItself run)) (r, said')

-- "bool (byte 0 or 1), signed, unsigned, a single or double float, a complex pair of either, or a time count with its unit": a value that was returned is of the kind of its type, a number
-- is in the range of the type's size, each float is the one of its bits, and a time has the type's unit; with values, floats and the numbers of values at the edges
pub record ValuesSorted : Type 0 where
  pub element_value : (file : List ℕ) (start : ℕ) (t ns s : List ℕ) (o : Order) (x p : List ℕ) (v : Value) → ElementValue file start t ns s o x p (Ok v)
      → (k : TypeStr) (bytes : List ℕ) → ElementIs file start t ns s o x p k bytes → ValueSort k.letter k.size k.units v
  pub read_value : (run : List ℕ) (k : TypeStr) (v : Value) → ReadValue run k (Ok v) → ValueSort k.letter k.size k.units v
  pub edges : ValueEdges
  pub float_edges : FloatEdges
  pub said_edges : SaidEdges

-- ---- "A value carries its float with the exact bits stored, in either byte order."
-- the bytes of a value that was returned, by its type's order and size, are the bytes of the element. This holds for every type that has values
pub record BitsStored : Type 0 where
  pub element_value : (file : List ℕ) (start : ℕ) (t ns s : List ℕ) (o : Order) (x p : List ℕ) (v : Value) → ElementValue file start t ns s o x p (Ok v)
      → (k : TypeStr) (bytes : List ℕ) → ElementIs file start t ns s o x p k bytes → value_bytes k.order k.size v ≡ bytes
  pub read_value : (run : List ℕ) (k : TypeStr) (v : Value) → ReadValue run k (Ok v) → value_bytes k.order k.size v ≡ run

-- in C from the four numbers that were returned, which are those of the value
pub record BitsStoredInC : Type 0 where
  pub npy_element_value : (file : List ℕ) (start : ℕ) (t ns s : List ℕ) (order : ℕ) (x p said said' : List ℕ) → NpyElementValue file start t ns s order x p said 0 said'
      → (o : Order) (k : TypeStr) (bytes : List ℕ) → order ≡ order_number o → ElementIs file start t ns s o x p k bytes
      → (v : Value) × ValueIs file start t ns s o x p v × (said' ≡ value_values v) × (said_bytes k.order k.size (value_numbers v) ≡ bytes)
  pub npy_read_value : (run : List ℕ) (order letter size units : ℕ) (said said' : List ℕ) → NpyReadValue run order letter size units said 0 said'
      → (k : TypeStr) × (order ∷ letter ∷ size ∷ units ∷ [] ≡ type_values k)
      × ((v : Value) × ValueByItself run k v × (said' ≡ value_values v) × (said_bytes k.order k.size (value_numbers v) ≡ run))

-- ---- "For `f2`, each half float becomes the f32 of exactly the same number, subnormals and signed zeros included; infinities stay infinities, and a NaN keeps its sign and its ten
-- payload bits at the top of the wider payload."
-- r is the single float that the half float in two bytes becomes
abbrev pub HalfIn : TypeStr → (bytes : List ℕ) → Single → Type 0
HalfIn k bytes r = let h = in_order k.order bytes in HalfBecomes (is_negative h) (exponent_of h) (fraction_of h) r

pub record HalvesExact : Type 0 where
  -- the value of an element of a type `f2` is that single float
  pub element_value : (file : List ℕ) (start : ℕ) (t ns s : List ℕ) (o : Order) (x p : List ℕ) (y : Result Value Refusal) → ElementValue file start t ns s o x p y
      → (k : TypeStr) (bytes : List ℕ) → ElementIs file start t ns s o x p k bytes → k.letter ≡ Floating → k.size ≡ 2
      → (r : Single) × HalfIn k bytes r × (y ≡ Ok (Value.Single r))
  pub npy_element_value : (file : List ℕ) (start : ℕ) (t ns s : List ℕ) (order : ℕ) (x p said : List ℕ) (c : ℕ) (said' : List ℕ)
      → NpyElementValue file start t ns s order x p said c said'
      → (o : Order) (k : TypeStr) (bytes : List ℕ) → order ≡ order_number o → ElementIs file start t ns s o x p k bytes → k.letter ≡ Floating → k.size ≡ 2
      → (r : Single) × HalfIn k bytes r × (c ≡ 0) × (said' ≡ 3 ∷ r.bits ∷ 0 ∷ 0 ∷ [])
  -- "The half float rule is proved once, over sign, exponent and fraction."
  pub rule : (s : Truth) (x t : ℕ) → x < 32 → t < 1024 → HalfBecomes s x t (widened s x t)
  -- no second single float satisfies it
  pub one : (s : Truth) (x t : ℕ) → x < 32 → OneOutcome (HalfBecomes s x t)
  -- the bits of `half_of`, by which `value_in` reads a half float, at the edges
  pub edges : HalfEdges

-- ---- "16-byte floats, 32-byte complex, S, U and V have no value here."; an `O` is at no place
abbrev pub no_value : TypeChar → (size : ℕ) → Truth
no_value Boolean n = false
no_value Int n = false
no_value Uint n = false
no_value Floating n = eqb n 16
no_value Complex n = eqb n 32
no_value TimeDelta n = false
no_value DateTime n = false
no_value ByteStr n = true
no_value UnicodeStr n = true
no_value Object n = true
no_value RawData n = true

-- "Refusals: 31, no value for this type, 32, bool byte above 1; both after 26, 31 first.": n is the number with which the place is refused; or the element is there, its type has no
-- value, and n is 31; or the element is there, it is a bool, its byte is above 1, and n is 32
abbrev pub ValueRefused : (file : List ℕ) (start : ℕ) (t ns s : List ℕ) (o : Order) (x p : List ℕ) (n : ℕ) → Type 0
ValueRefused file start t ns s o x p n =
    (place_of (length file) start t ns s o x p ≡ refused n)
    ⊎ (((n ≡ 31) × ElementWith file start t ns s o x p (λ k bytes. no_value k.letter k.size ≡ true))
    ⊎ ((n ≡ 32) × ElementWith file start t ns s o x p (λ k bytes. (k.letter ≡ Boolean) × ((b : ℕ) × (bytes ≡ b ∷ []) × (1 < b)))))

-- a call is refused exactly where some number is due, and with that number
pub record RefusedExactly {R : Type 0} (door : Door Value R) (Due : ℕ → Type 0) (y : R) : Type 0 where
  pub all : (n : ℕ) → Due n → y ≡ door.returned (refused n)
  pub only : door.success y ≡ false → (n : ℕ) × Due n

pub record ValueRefusals : Type 0 where
  pub element_value : (file : List ℕ) (start : ℕ) (t ns s : List ℕ) (o : Order) (x p : List ℕ) (y : Result Value Refusal) → ElementValue file start t ns s o x p y
      → RefusedExactly in_rattle (ValueRefused file start t ns s o x p) (answer y)
  -- in C of an order that a number names; another number is 27
  pub npy_element_value : (file : List ℕ) (start : ℕ) (t ns s : List ℕ) (order : ℕ) (x p said : List ℕ) (r : ℕ) (said' : List ℕ)
      → NpyElementValue file start t ns s order x p said r said' → (o : Order) → order ≡ order_number o
      → RefusedExactly (in_c value_values said) (ValueRefused file start t ns s o x p) (r, said')
  pub npy_no_order : (file : List ℕ) (start : ℕ) (t ns s : List ℕ) (order : ℕ) (x p said : List ℕ) (r : ℕ) (said' : List ℕ)
      → NpyElementValue file start t ns s order x p said r said' → ((o : Order) → order ≡ order_number o → ⊥) → (r ≡ 27) × (said' ≡ said)
