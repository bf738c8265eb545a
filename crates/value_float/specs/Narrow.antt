-- Document 02, wish 1: "A value carries its float with the exact bits stored". The 16 bits of a half float, from the 32 bits of the f32 that it became: `narrowed` gives them back
-- (`half_back`, proofs/Narrow.antt), so no two half floats become f32 of the same bits.
use Rattle.std.specs.Prelude.{ℕ, zero, suc, ◌+◌, ◌*◌, ◌/◌, ◌%◌, ◌^◌, Bool, cond, ltb, Float}
use Rattle.std.specs.Float.{nan, inf, fin, binary32}
use Rattle.std.specs.Float.Ieee.{up, down, of_bits}

-- the sign in the bits of a half float
abbrev pub half_sign : Bool → ℕ
half_sign s = cond s 0x8000 0

-- the exponent and the fraction of the half float of n times 2^-24, as one number: up to 2,047 it is n itself; then each doubling adds 1 to the exponent, at most `doublings` times
abbrev pub unscaled : (doublings n : ℕ) → ℕ
unscaled zero n = n
unscaled (suc k) n = cond (ltb n 2048) n (1024 + unscaled k (n / 2))

-- by the number of the 32 bits, and for a NaN by the bits. A finite number of the library is m times 2^e, which is m * up e / down e
abbrev pub narrowed_by : Float → (bits : ℕ) → ℕ
narrowed_by nan b = b / 0x80000000 * 0x8000 + (0x7C00 + b / 0x2000 % 1024)
narrowed_by (inf s) b = half_sign s + 0x7C00
narrowed_by (fin s m e) b = half_sign s + unscaled 29 (m * up e * 2 ^ 24 / down e)

abbrev pub narrowed : (bits : ℕ) → ℕ
narrowed b = narrowed_by (of_bits binary32 b) b
