-- As many bytes as are returned are in the room.
use mathlib.Core.Path.{sym}
use lib.Seq.{length-take-le}
use Rattle.element_text.proofs.Enough.{put_inside}
use Rattle.npy_get.proofs.print_line.Goals as goal

pub slice_bounds-out-end : goal.slice_bounds-out-end
slice_bounds-out-end g c = (put_inside c.args.kind c.args.element.now _ _ _ _ c.put.ensures c.in-Ok.is)

pub slice_bounds-write_all-end : goal.slice_bounds-write_all-end
slice_bounds-write_all-end g c = sym (length-take-le _ _ (put_inside c.args.kind c.args.element.now _ _ _ _ c.put.ensures c.in-Ok.is))
