-- Values at the edges, by their type and bytes: document 02, wish 1, as docs/DECISIONS.md reads it.
use Rattle.std.specs.Prelude.{◌≡◌, [], ◌∷◌, pos, negsuc, ℕ}
use Rattle.counts.specs.Outcome.{gives, refused}
use Rattle.type_letters.specs.declared.Endianness.{Endianness}
use Rattle.type_letters.specs.declared.Endianness.TheVariants.{Little, Big, Irrelevant}
use Rattle.type_letters.specs.declared.TypeChar.{TypeChar}
use Rattle.type_letters.specs.declared.TypeChar.TheVariants.{Bool as Boolean, Int, Uint, Float as Floating, Complex, TimeDelta, DateTime, ByteStr, Object}
use Rattle.type_units.specs.declared.TimeUnits.{TimeUnits}
use Rattle.type_str.specs.declared.TypeStr.{TypeStr}
use Rattle.value_float.specs.Floats.{single_of}
use Rattle.value.specs.declared.Value.{Value}
use Rattle.value.specs.Values.{read_value}

-- a type without units, and one with
abbrev pub type_with : Endianness → TypeChar → ℕ → TypeStr
type_with o l n = record { order = o; letter = l; size = n; units = TimeUnits.Absent }

abbrev pub time_with : Endianness → TypeChar → TimeUnits → TypeStr
time_with o l u = record { order = o; letter = l; size = 8; units = u }

pub record ValueEdges : Type 0 where
  -- `|i1`: FF, 7F, 80; `|u1`: FF; `>i2`, `<i2`
  pub minus_one : read_value (type_with Irrelevant Int 1) (255 ∷ []) ≡ gives (Value.Signed (negsuc 0))
  pub largest : read_value (type_with Irrelevant Int 1) (127 ∷ []) ≡ gives (Value.Signed (pos 127))
  pub least : read_value (type_with Irrelevant Int 1) (128 ∷ []) ≡ gives (Value.Signed (negsuc 127))
  pub unsigned : read_value (type_with Irrelevant Uint 1) (255 ∷ []) ≡ gives (Value.Unsigned 255)
  pub two : read_value (type_with Big Int 2) (255 ∷ 254 ∷ []) ≡ gives (Value.Signed (negsuc 1))
  pub two_little : read_value (type_with Little Int 2) (0 ∷ 128 ∷ []) ≡ gives (Value.Signed (negsuc 32767))
  -- `<f4`, 1; `>c8`: each part is turned by itself
  pub single : read_value (type_with Little Floating 4) (0 ∷ 0 ∷ 128 ∷ 63 ∷ []) ≡ gives (Value.Single (single_of 0x3F800000))
  pub pair : read_value (type_with Big Complex 8) (0 ∷ 1 ∷ 2 ∷ 3 ∷ 4 ∷ 5 ∷ 6 ∷ 7 ∷ []) ≡ gives (Value.SinglePair (single_of 0x00010203) (single_of 0x04050607))
  -- `<m8[us]`, -1; `>M8[Y]`, -2^63
  pub tick : read_value (time_with Little TimeDelta TimeUnits.Microsecond) (255 ∷ 255 ∷ 255 ∷ 255 ∷ 255 ∷ 255 ∷ 255 ∷ 255 ∷ []) ≡ gives (Value.Time (negsuc 0) TimeUnits.Microsecond)
  pub not_a_time : read_value (time_with Big DateTime TimeUnits.Year) (128 ∷ 0 ∷ 0 ∷ 0 ∷ 0 ∷ 0 ∷ 0 ∷ 0 ∷ []) ≡ gives (Value.Time (negsuc 0x7FFFFFFFFFFFFFFF) TimeUnits.Year)
  -- 32; 31, of `O` too, and before the run's length; 27 for the length, and before 32
  pub bool_two : read_value (type_with Irrelevant Boolean 1) (2 ∷ []) ≡ refused 32
  pub object : read_value (type_with Irrelevant Object 0) [] ≡ refused 31
  pub long_float : read_value (type_with Little Floating 16) [] ≡ refused 31
  pub short : read_value (type_with Little Int 4) (1 ∷ 2 ∷ 3 ∷ []) ≡ refused 27
  pub no_bytes : read_value (type_with Irrelevant ByteStr 1) [] ≡ refused 31
  pub two_bools : read_value (type_with Irrelevant Boolean 1) (2 ∷ 2 ∷ []) ≡ refused 27
