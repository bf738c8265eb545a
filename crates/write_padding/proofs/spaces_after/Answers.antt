-- `write_padding::spaces_after` meets its contract: the code's padding unit is the definition's.
use native.Mathlib.Omega.{arith}
use Rattle.record.specs.Padding.{spaces_after}
use Rattle.write_padding.proofs.spaces_after.Goals as goal

pub returns : goal.returns
unfolding spaces_after
returns c = omega arith
