-- Half floats at the edges, of both signs, and the bits of the f32 that each becomes, as NumPy 1.24.2 has them.
use Rattle.std.specs.Prelude.{◌≡◌}
use Rattle.value_float.specs.Half.{half_of}

pub record HalfEdges : Type 0 where
  -- the zeros
  pub zero : (half_of 0x0000).bits ≡ 0x00000000
  pub minus_zero : (half_of 0x8000).bits ≡ 0x80000000
  -- 2^-24, the smallest; the largest subnormal; 2^-14, the smallest normal
  pub smallest : (half_of 0x0001).bits ≡ 0x33800000
  pub minus_smallest : (half_of 0x8001).bits ≡ 0xB3800000
  pub largest_subnormal : (half_of 0x03FF).bits ≡ 0x387FC000
  pub smallest_normal : (half_of 0x0400).bits ≡ 0x38800000
  -- 1, 1/3 rounded to a half, -2
  pub one : (half_of 0x3C00).bits ≡ 0x3F800000
  pub third : (half_of 0x3555).bits ≡ 0x3EAAA000
  pub minus_two : (half_of 0xC000).bits ≡ 0xC0000000
  -- 65504, the largest; the infinities
  pub largest : (half_of 0x7BFF).bits ≡ 0x477FE000
  pub minus_largest : (half_of 0xFBFF).bits ≡ 0xC77FE000
  pub infinity : (half_of 0x7C00).bits ≡ 0x7F800000
  pub minus_infinity : (half_of 0xFC00).bits ≡ 0xFF800000
  -- NaNs: the least and the largest signalling one, the least quiet one, all ones; with the sign
  pub signalling : (half_of 0x7C01).bits ≡ 0x7F802000
  pub largest_signalling : (half_of 0x7DFF).bits ≡ 0x7FBFE000
  pub quiet : (half_of 0x7E00).bits ≡ 0x7FC00000
  pub minus_signalling : (half_of 0xFC01).bits ≡ 0xFF802000
  pub minus_quiet : (half_of 0xFE00).bits ≡ 0xFFC00000
  pub all_ones : (half_of 0xFFFF).bits ≡ 0xFFFFE000
