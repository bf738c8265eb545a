-- Document 02, wish 1: "A value carries its float with the exact bits stored, in either byte order." The bytes of a value, by the order and the size of its type, from the bits of
-- its floats alone: they are the bytes that it was read from (`stored_back`, proofs/Stored.antt), for every type that has values. So no two runs of a type have the same value.
use Rattle.std.specs.Prelude.{ℕ, ◌-◌, cond, List, ◌++◌, eqb, ℤ, pos, negsuc}
use Rattle.number_bytes.specs.Numbers.{out_order}
use Rattle.type_letters.specs.declared.Endianness.{Endianness}
use Rattle.value_float.specs.Narrow.{narrowed}
use Rattle.value.specs.declared.Value.{Value}
use Rattle.value.specs.Values.{most_of}

-- the two's complement of a number, where `most` is the largest number of the width
abbrev pub complement : (most : ℕ) → ℤ → ℕ
complement most (pos n) = n
complement most (negsuc k) = most - k

-- the bits of a single float in four bytes, or of a half float in two, from the bits of the float that it became
abbrev pub single_bits : (size bits : ℕ) → ℕ
single_bits n b = cond (eqb n 2) (narrowed b) b

abbrev pub value_bytes : Endianness → (size : ℕ) → Value → List ℕ
value_bytes o n (Value.Bool b) = out_order o n (cond b 1 0)
value_bytes o n (Value.Signed z) = out_order o n (complement (most_of n) z)
value_bytes o n (Value.Unsigned k) = out_order o n k
value_bytes o n (Value.Single x) = out_order o n (single_bits n x.bits)
value_bytes o n (Value.Double x) = out_order o n x.bits
value_bytes o n (Value.SinglePair x y) = out_order o 4 x.bits ++ out_order o 4 y.bits
value_bytes o n (Value.DoublePair x y) = out_order o 8 x.bits ++ out_order o 8 y.bits
value_bytes o n (Value.Time z u) = out_order o n (complement (most_of n) z)
