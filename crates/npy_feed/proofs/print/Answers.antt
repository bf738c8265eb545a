-- As many bytes as are returned are in the room.
use mathlib.Core.Path.{sym}
use lib.Seq.{length-take-le}
use Rattle.header.specs.Reads.{lent}
use Rattle.list_file.proofs.Enough.{said_inside}
use Rattle.npy_feed.proofs.print.Goals as goal

pub slice_bounds-out-end : goal.slice_bounds-out-end
slice_bounds-out-end g c = let a = c.args in said_inside a.r (lent a.table.now a.names.now a.shape.now) _ _ _ _ c.put_read.ensures c.in-Ok.is

pub slice_bounds-write_all-end : goal.slice_bounds-write_all-end
slice_bounds-write_all-end g c = let a = c.args in sym (length-take-le _ _ (said_inside a.r (lent a.table.now a.names.now a.shape.now) _ _ _ _ c.put_read.ensures c.in-Ok.is))
