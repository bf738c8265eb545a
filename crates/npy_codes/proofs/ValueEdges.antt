-- The four numbers of a value of each kind, computed.
use mathlib.Core.Path.{refl}
use Rattle.npy_codes.specs.ValueEdges.{SaidEdges}

pub said_edges : SaidEdges
said_edges = record { bool = refl; minus_one = refl; unsigned = refl; single = refl; double = refl; single_pair = refl; double_pair = refl; tick = refl }
