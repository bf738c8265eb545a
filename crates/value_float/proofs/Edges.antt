-- The edges of half floats, each computed.
use mathlib.Core.Path.{refl}
use lib.Ieee.{round, to_bits}
use Rattle.value_float.specs.Half.{scaled, nearest_single, widened, half_of}
use Rattle.value_float.specs.Edges.{HalfEdges}

pub edges : HalfEdges
unfolding half_of widened nearest_single scaled round to_bits
edges = record {
  zero = refl;
  minus_zero = refl;
  smallest = refl;
  minus_smallest = refl;
  largest_subnormal = refl;
  smallest_normal = refl;
  one = refl;
  third = refl;
  minus_two = refl;
  largest = refl;
  minus_largest = refl;
  infinity = refl;
  minus_infinity = refl;
  signalling = refl;
  largest_signalling = refl;
  quiet = refl;
  minus_signalling = refl;
  minus_quiet = refl;
  all_ones = refl;
}
