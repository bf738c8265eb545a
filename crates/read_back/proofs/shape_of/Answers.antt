-- `read_back::shape_of` meets its contract: the front of the room, or the whole room.
use native.Mathlib.Omega.{arith}
use mathlib.Core.Path.{sym}
use lib.Seq.{take_all, length-take-le}
use Rattle.read_back.proofs.shape_of.Goals as goal

pub slice_bounds-result-end : goal.slice_bounds-result-end
slice_bounds-result-end c = sym (length-take-le c.args.rank c.args.shape.now (omega (arith, c.if-rank-shape.true)))

pub returns : goal.returns
returns c = sym (take_all c.args.rank c.args.shape.now (omega (arith, c.if-rank-shape.false)))
