-- Document 02, wish 1: "bool (byte 0 or 1), signed, unsigned, a single or double float, a complex pair of either, or a time count with its unit", by the letter, the size and the units of a type:
-- which kind of value it has, how large a number is, that each float is the one of its bits, and that a time has the unit of its type. Every value that is read is so (`sort_of`, proofs/Sorts.antt).
use Rattle.std.specs.Prelude.{ℕ, ◌*◌, ◌^◌, ◌<◌, ◌≡◌, Bool as Truth, ℤ, pos, negsuc}
use Rattle.std.specs.Float.{binary32, binary64}
use Rattle.std.specs.Float.Ieee.{of_bits}
use Rattle.value_float.specs.declared.Single.{Single}
use Rattle.value_float.specs.declared.Double.{Double}
use Rattle.type_letters.specs.declared.TypeChar.{TypeChar}
use Rattle.type_letters.specs.declared.TypeChar.TheVariants.{Bool as Boolean, Int, Uint, Float as Floating, Complex, TimeDelta, DateTime, ByteStr, UnicodeStr, Object, RawData}
use Rattle.type_units.specs.declared.TimeUnits.{TimeUnits}
use Rattle.value.specs.declared.Value.{Value}

-- a number from -2^(8n-1) to 2^(8n-1) - 1
abbrev pub InSize : (size : ℕ) → ℤ → Type 0
InSize n (pos k) = 2 * k < 256 ^ n
InSize n (negsuc k) = 2 * k < 256 ^ n

-- the float is that of the bits
abbrev pub OfBits32 : Single → Type 0
OfBits32 x = x.number ≡ of_bits binary32 x.bits

abbrev pub OfBits64 : Double → Type 0
OfBits64 x = x.number ≡ of_bits binary64 x.bits

-- of a letter; the sizes that a float and a complex have are 2 4 8 16 and 8 16 32
abbrev pub ValueSort : TypeChar → (size : ℕ) → TimeUnits → Value → Type 0
ValueSort Boolean n u v = (b : Truth) × (v ≡ Value.Bool b)
ValueSort Int n u v = (z : ℤ) × (v ≡ Value.Signed z) × InSize n z
ValueSort Uint n u v = (k : ℕ) × (v ≡ Value.Unsigned k) × (k < 256 ^ n)
ValueSort Floating n u v =
    (n ≡ 2 → (x : Single) × (v ≡ Value.Single x) × OfBits32 x) × (n ≡ 4 → (x : Single) × (v ≡ Value.Single x) × OfBits32 x) × (n ≡ 8 → (x : Double) × (v ≡ Value.Double x) × OfBits64 x) × (n ≡ 16 → ⊥)
ValueSort Complex n u v =
    (n ≡ 8 → (x : Single) × ((y : Single) × (v ≡ Value.SinglePair x y) × OfBits32 x × OfBits32 y)) × (n ≡ 16 → (x : Double) × ((y : Double) × (v ≡ Value.DoublePair x y) × OfBits64 x × OfBits64 y)) × (n ≡ 32 → ⊥)
ValueSort TimeDelta n u v = (z : ℤ) × (v ≡ Value.Time z u) × InSize n z
ValueSort DateTime n u v = (z : ℤ) × (v ≡ Value.Time z u) × InSize n z
ValueSort ByteStr n u v = ⊥
ValueSort UnicodeStr n u v = ⊥
ValueSort Object n u v = ⊥
ValueSort RawData n u v = ⊥
