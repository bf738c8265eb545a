-- Floats at the edges, by their bits: -1, -0, the smallest, the infinity and a NaN, single and double. `fin s m e` is m times 2^e with the sign s.
use Rattle.std.specs.Prelude.{◌≡◌, true, false, pos, negsuc}
use Rattle.std.specs.Float.{nan, inf, fin}
use Rattle.value_float.specs.Floats.{single_of, double_of}

pub record FloatEdges : Type 0 where
  pub minus_one : (single_of 0xBF800000).number ≡ fin true 1 (pos 0)
  pub minus_zero : (single_of 0x80000000).number ≡ fin true 0 (pos 0)
  pub least : (single_of 1).number ≡ fin false 1 (negsuc 148)
  pub infinite : (single_of 0xFF800000).number ≡ inf true
  pub none : (single_of 0x7F800001).number ≡ nan
  pub double_minus_one : (double_of 0xBFF0000000000000).number ≡ fin true 1 (pos 0)
  pub double_minus_zero : (double_of 0x8000000000000000).number ≡ fin true 0 (pos 0)
  pub double_least : (double_of 1).number ≡ fin false 1 (negsuc 1073)
  pub double_infinite : (double_of 0xFFF0000000000000).number ≡ inf true
  pub double_none : (double_of 0x7FF0000000000001).number ≡ nan
