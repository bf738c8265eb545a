-- The four numbers of a value in C: its kind; two numbers of 64 bits, which are the value's bits, or those of the real and of the imaginary part; the units of a time. A number that a
-- kind does not use is 0. Document 02, wish 1: "A value carries its float with the exact bits stored". The kinds are those of enum npy_value_kind, in the order of document 02's sentence.
use Rattle.std.specs.Prelude.{ℕ, ◌/◌, List, [], ◌∷◌, ◌++◌, cond, ◌||◌, eqb}
use Rattle.type_letters.specs.declared.Endianness.{Endianness}
use Rattle.number_bytes.specs.Numbers.{out_order}
use Rattle.dtype.specs.TypeNumbers.{units_number}
use Rattle.value.specs.declared.Value.{Value}
use Rattle.value.specs.Values.{most_of}
use Rattle.value.specs.Stored.{complement, single_bits}
use Rattle.npy_codes.specs.declared.ValueNumbers.{ValueNumbers}

abbrev pub four_numbers : (kind first second units : ℕ) → ValueNumbers
four_numbers kind first second units = record { kind = kind; first = first; second = second; units = units }

-- a signed number is its two's complement in 64 bits, a float its bits
abbrev pub value_numbers : Value → ValueNumbers
value_numbers (Value.Bool b) = four_numbers 0 (cond b 1 0) 0 0
value_numbers (Value.Signed z) = four_numbers 1 (complement (most_of 8) z) 0 0
value_numbers (Value.Unsigned n) = four_numbers 2 n 0 0
value_numbers (Value.Single x) = four_numbers 3 x.bits 0 0
value_numbers (Value.Double x) = four_numbers 4 x.bits 0 0
value_numbers (Value.SinglePair x y) = four_numbers 5 x.bits y.bits 0
value_numbers (Value.DoublePair x y) = four_numbers 6 x.bits y.bits 0
value_numbers (Value.Time z u) = four_numbers 7 (complement (most_of 8) z) 0 (units_number u)

-- the values of an answer
abbrev pub value_values : Value → List ℕ
value_values v = (value_numbers v).kind ∷ (value_numbers v).first ∷ (value_numbers v).second ∷ (value_numbers v).units ∷ []

-- the bytes of an element, from the four numbers of its value and the order and the size of its type alone. They are those that the value was read from (`said_back`, proofs/Said.antt)
abbrev pub said_bytes : Endianness → (size : ℕ) → ValueNumbers → List ℕ
said_bytes o n s =
    cond (eqb s.kind 5 || eqb s.kind 6) (out_order o (n / 2) s.first ++ out_order o (n / 2) s.second) (out_order o n (cond (eqb s.kind 3) (single_bits n s.first) s.first))
