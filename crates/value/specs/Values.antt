-- Document 02, wish 1: "Give the element at a place as a value: bool (byte 0 or 1), signed, unsigned, a single or double float, a complex pair of either, or a time
-- count with its unit. A value carries its float with the exact bits stored, in either byte order. .. 16-byte floats, 32-byte complex, S, U and V have no value here. ..
-- Refusals: 31, no value for this type, 32, bool byte above 1". The number in a run of bytes is number_bytes/specs/Numbers, a float with its bits value_float/specs/Floats,
-- and half floats are value_float/specs/Half.
use Rattle.std.specs.Prelude.{ℕ, ◌-◌, ◌/◌, ◌^◌, Bool as Truth, true, false, cond, not, List, eqb, ltb, leb, ℤ, pos, negsuc, length, take, drop}
use Rattle.counts.specs.Outcome.{Outcome, gives, refused, unless}
use Rattle.value_float.specs.Floats.{single_of, double_of}
use Rattle.value_float.specs.Half.{half_of}
use Rattle.number_bytes.specs.Numbers.{in_order}
use Rattle.type_letters.specs.declared.Endianness.{Endianness}
use Rattle.type_letters.specs.declared.TypeChar.{TypeChar}
use Rattle.type_letters.specs.declared.TypeChar.TheVariants.{Bool as Boolean, Int, Uint, Float as Floating, Complex, TimeDelta, DateTime, ByteStr, UnicodeStr, Object, RawData}
use Rattle.type_units.specs.declared.TimeUnits.{TimeUnits}
use Rattle.type_str.specs.declared.TypeStr.{TypeStr}
use Rattle.type_str.specs.Text.{is_type}
use Rattle.value.specs.declared.Value.{Value}
use Rattle.value.specs.declared.Form.{Form}

-- how the bytes of a letter and a size are read. By NumPy a float of 2, 4 or 8 bytes is IEEE 754's binary16, binary32 or binary64, and a complex of 8 or 16 bytes a pair of them. "16-byte
-- floats, 32-byte complex, S, U and V have no value here": `f` has no other size than 2 4 8 16, and `c` than 8 16 32. Nor has an `O` one, which no place has
unfoldable pub form_of : TypeChar → (size : ℕ) → Form
form_of Boolean size = Form.Bool
form_of Int size = Form.Signed
form_of Uint size = Form.Unsigned
form_of Floating size = cond (eqb size 2) Form.Half (cond (eqb size 4) Form.Single (cond (eqb size 8) Form.Double Form.NoValue))
form_of Complex size = cond (eqb size 8) Form.SinglePair (cond (eqb size 16) Form.DoublePair Form.NoValue)
form_of TimeDelta size = Form.Time
form_of DateTime size = Form.Time
form_of ByteStr size = Form.NoValue
form_of UnicodeStr size = Form.NoValue
form_of Object size = Form.NoValue
form_of RawData size = Form.NoValue

abbrev pub has_no_value : Form → Truth
has_no_value Form.Bool = false
has_no_value Form.Signed = false
has_no_value Form.Unsigned = false
has_no_value Form.Half = false
has_no_value Form.Single = false
has_no_value Form.Double = false
has_no_value Form.SinglePair = false
has_no_value Form.DoublePair = false
has_no_value Form.Time = false
has_no_value Form.NoValue = true

-- the largest number of so many bytes
abbrev pub most_of : (width : ℕ) → ℕ
most_of width = 256 ^ width - 1

-- the number whose two's complement is n, where `most` is the largest number of the width: the upper half of them are the negative numbers, `most` is -1
unfoldable pub signed_by : (most n : ℕ) → ℤ
signed_by most n = cond (leb n (most / 2)) (pos n) (negsuc (most - n))

-- "signed"
abbrev pub signed_in : Endianness → (run : List ℕ) → ℤ
signed_in o run = signed_by (most_of (length run)) (in_order o run)

-- "bool (byte 0 or 1)", "32, bool byte above 1"
abbrev pub bool_of : ℕ → Outcome Value
bool_of n = unless (ltb 1 n) 32 (gives (Value.Bool (eqb n 1)))

abbrev pub bool_in : Endianness → (run : List ℕ) → Outcome Value
bool_in o run = bool_of (in_order o run)

-- "a complex pair of either": by NumPy the real part is first; each part is in the byte order
abbrev pub single_pair : Endianness → (run : List ℕ) → Value
single_pair o run = Value.SinglePair (single_of (in_order o (take 4 run))) (single_of (in_order o (drop 4 run)))

abbrev pub double_pair : Endianness → (run : List ℕ) → Value
double_pair o run = Value.DoublePair (double_of (in_order o (take 8 run))) (double_of (in_order o (drop 8 run)))

-- the value in a run of bytes
unfoldable pub value_by : Form → Endianness → TimeUnits → (run : List ℕ) → Outcome Value
value_by Form.Bool o u run = bool_in o run
value_by Form.Signed o u run = gives (Value.Signed (signed_in o run))
value_by Form.Unsigned o u run = gives (Value.Unsigned (in_order o run))
value_by Form.Half o u run = gives (Value.Single (half_of (in_order o run)))
value_by Form.Single o u run = gives (Value.Single (single_of (in_order o run)))
value_by Form.Double o u run = gives (Value.Double (double_of (in_order o run)))
value_by Form.SinglePair o u run = gives (single_pair o run)
value_by Form.DoublePair o u run = gives (double_pair o run)
value_by Form.Time o u run = gives (Value.Time (signed_in o run) u)
value_by Form.NoValue o u run = refused 31

-- the value of the bytes of a type, or 31, or 32
abbrev pub value_in : TypeStr → (run : List ℕ) → Outcome Value
value_in t run = value_by (form_of t.letter t.size) t.order t.units run

-- the same of any run and any type: 27 where no reading gives the type; then 31; then 27 again where the run is not as long as the type, which is our reading (docs/DECISIONS.md); then
-- 32. At a place neither 27 occurs
unfoldable pub read_value : TypeStr → (run : List ℕ) → Outcome Value
read_value t run =
    unless (not (is_type t)) 27 (unless (has_no_value (form_of t.letter t.size)) 31 (unless (not (eqb (length run) t.size)) 27 (value_in t run)))
