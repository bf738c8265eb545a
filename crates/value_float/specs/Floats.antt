-- Document 02, wish 1: "A value carries its float with the exact bits stored". A float is its number, which the bits determine by IEEE 754 as the language's library has it,
-- and the bits. Every NaN is one number of the library; its sign and payload are in the bits.
use Rattle.std.specs.Prelude.{ℕ}
use Rattle.std.specs.Float.{binary32, binary64}
use Rattle.std.specs.Float.Ieee.{of_bits}
use Rattle.value_float.specs.declared.Single.{Single}
use Rattle.value_float.specs.declared.Double.{Double}

-- the single float of 32 bits
abbrev pub single_of : ℕ → Single
single_of b = record { number = of_bits binary32 b; bits = b }

-- the double float of 64 bits
abbrev pub double_of : ℕ → Double
double_of b = record { number = of_bits binary64 b; bits = b }
