-- The four numbers of a value, one line for each kind.
use Rattle.std.specs.Prelude.{◌≡◌, true, [], ◌∷◌, negsuc}
use Rattle.type_units.specs.declared.TimeUnits.{TimeUnits}
use Rattle.value_float.specs.Floats.{single_of, double_of}
use Rattle.value.specs.declared.Value.{Value}
use Rattle.npy_codes.specs.Values.{value_values}

pub record SaidEdges : Type 0 where
  pub bool : value_values (Value.Bool true) ≡ 0 ∷ 1 ∷ 0 ∷ 0 ∷ []
  pub minus_one : value_values (Value.Signed (negsuc 0)) ≡ 1 ∷ 0xFFFFFFFFFFFFFFFF ∷ 0 ∷ 0 ∷ []
  pub unsigned : value_values (Value.Unsigned 255) ≡ 2 ∷ 255 ∷ 0 ∷ 0 ∷ []
  pub single : value_values (Value.Single (single_of 0x7F802000)) ≡ 3 ∷ 0x7F802000 ∷ 0 ∷ 0 ∷ []
  pub double : value_values (Value.Double (double_of 0x7FF0000000000001)) ≡ 4 ∷ 0x7FF0000000000001 ∷ 0 ∷ 0 ∷ []
  pub single_pair : value_values (Value.SinglePair (single_of 0x00010203) (single_of 0x04050607)) ≡ 5 ∷ 0x00010203 ∷ 0x04050607 ∷ 0 ∷ []
  pub double_pair : value_values (Value.DoublePair (double_of 1) (double_of 2)) ≡ 6 ∷ 1 ∷ 2 ∷ 0 ∷ []
  pub tick : value_values (Value.Time (negsuc 6) TimeUnits.Microsecond) ≡ 7 ∷ 0xFFFFFFFFFFFFFFF9 ∷ 0 ∷ 9 ∷ []
