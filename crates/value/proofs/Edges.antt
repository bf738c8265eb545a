-- The edges of values, each computed.
use mathlib.Core.Path.{refl}
use Rattle.type_str.specs.Text.{is_type}
use Rattle.type_str.specs.TypeString.{checked, validated}
use Rattle.number_bytes.specs.Numbers.{in_order}
use Rattle.value.specs.Values.{form_of, signed_by, value_by, read_value}
use Rattle.value.specs.Edges.{ValueEdges}

pub edges : ValueEdges
unfolding read_value is_type checked validated in_order form_of signed_by value_by
edges = record {
  minus_one = refl;
  largest = refl;
  least = refl;
  unsigned = refl;
  two = refl;
  two_little = refl;
  single = refl;
  pair = refl;
  tick = refl;
  not_a_time = refl;
  bool_two = refl;
  object = refl;
  long_float = refl;
  short = refl;
  no_bytes = refl;
  two_bools = refl;
}
