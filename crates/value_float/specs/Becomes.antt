-- Document 02, wish 1: what a single float r, an f32 and its bits, has to be for the half float of a sign s, an exponent x and a fraction t. `widened` is so (`widened_becomes`,
-- proofs/Becomes.antt), and no other single float is (`becomes_one`, proofs/OneFloat.antt). The library has one NaN; its sign and payload are in the bits.
use Rattle.std.specs.Prelude.{ℕ, ◌+◌, ◌*◌, ◌^◌, ◌<◌, ◌≡◌, Bool}
use Rattle.std.specs.Float.{nan, inf, binary32}
use Rattle.std.specs.Float.Ieee.{of_bits}
use Rattle.std.specs.Float.Ieee.Exact.{HasValue}
use Rattle.value_float.specs.declared.Single.{Single}
use Rattle.value_float.specs.Half.{scaled, sign_bits}

pub record HalfBecomes (s : Bool) (x t : ℕ) (r : Single) : Type 0 where
  -- "the f32 of exactly the same number, subnormals and signed zeros included": it is finite, its sign is s, and its size is `scaled x t` divided by 2^24
  pub finite : x < 31 → HasValue r.number s (scaled x t) (2 ^ 24)
  -- "infinities stay infinities"
  pub infinite : x ≡ 31 → t ≡ 0 → r.number ≡ inf s
  -- "a NaN keeps its sign and its ten payload bits at the top of the wider payload": the bits of both have the sign, an exponent of 255 and the ten bits at the top of the fraction
  pub not_a_number : x ≡ 31 → 0 < t → r.number ≡ nan
  pub bits_at_31 : x ≡ 31 → r.bits ≡ sign_bits s + (255 * 2 ^ 23 + t * 2 ^ 13)
  -- the float is that of the bits, which are 32
  pub number_of_bits : r.number ≡ of_bits binary32 r.bits
  pub in_32_bits : r.bits < 2 ^ 32
