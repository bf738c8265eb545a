-- The edges of floats, each computed.
use mathlib.Core.Path.{refl}
use lib.Ieee.{of_bits}
use Rattle.value_float.specs.FloatEdges.{FloatEdges}

pub float_edges : FloatEdges
unfolding of_bits
float_edges = record { minus_one = refl; minus_zero = refl; least = refl; infinite = refl; none = refl; double_minus_one = refl; double_minus_zero = refl; double_least = refl; double_infinite = refl; double_none = refl }
