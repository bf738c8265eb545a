-- Document 02, wish 1: "For `f2`, each half float becomes the f32 of exactly the same number, subnormals and signed zeros included; infinities stay infinities, and a NaN
-- keeps its sign and its ten payload bits at the top of the wider payload." A half float is IEEE 754's binary16. Every finite one is a whole number of times 2^-24, its smallest;
-- `scaled` is that whole number. That the f32 is exactly this number is in Becomes.antt.
use Rattle.std.specs.Prelude.{ℕ, zero, suc, ◌+◌, ◌*◌, ◌/◌, ◌%◌, ◌^◌, Bool, cond, eqb, leb}
use Rattle.std.specs.Float.{binary32}
use Rattle.std.specs.Float.Ieee.{round, to_bits}
use Rattle.value_float.specs.declared.Single.{Single}
use Rattle.value_float.specs.Floats.{single_of}

-- the fields of the 16 bits: the sign, five bits of exponent, ten of fraction
abbrev pub is_negative : (bits : ℕ) → Bool
is_negative h = leb 0x8000 h

abbrev pub exponent_of : (bits : ℕ) → ℕ
exponent_of h = h / 1024 % 32

abbrev pub fraction_of : (bits : ℕ) → ℕ
fraction_of h = h % 1024

-- IEEE 754: an exponent x from 1 to 30 and a fraction t are the number (1 + t / 2^10) * 2^(x - 15), and an exponent of 0 is (t / 2^10) * 2^-14. Counted in 2^-24 that is
-- (1024 + t) * 2^(x - 1), and t
abbrev pub digits : (exponent fraction : ℕ) → ℕ
digits zero t = t
digits (suc x) t = 1024 + t

abbrev pub shift : (exponent : ℕ) → ℕ
shift zero = 0
shift (suc x) = x

unfoldable pub scaled : (exponent fraction : ℕ) → ℕ
scaled x t = digits x t * 2 ^ shift x

-- the sign in the bits of an f32
abbrev pub sign_bits : Bool → ℕ
sign_bits s = cond s 0x80000000 0

-- the f32 that is nearest to n times 2^-24, with the sign s, and its bits
unfoldable pub nearest_single : Bool → ℕ → Single
nearest_single s n = record { number = round binary32 s n (2 ^ 24); bits = to_bits binary32 (round binary32 s n (2 ^ 24)) }

-- by sign, exponent and fraction. An exponent of 31 is an infinity or a NaN: its f32 has an exponent of 255, and the ten bits at the top of its fraction
unfoldable pub widened : Bool → (exponent fraction : ℕ) → Single
widened s x t = cond (eqb x 31) (single_of (sign_bits s + (0x7F800000 + t * 0x2000))) (nearest_single s (scaled x t))

-- by the 16 bits
unfoldable pub half_of : ℕ → Single
half_of h = widened (is_negative h) (exponent_of h) (fraction_of h)
