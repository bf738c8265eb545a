-- As many bytes as are returned are in the room.
use mathlib.Core.Path.{sym}
use lib.Seq.{length-take-le}
use Rattle.list_file.proofs.Enough.{report_inside}
use Rattle.npy_list.proofs.main.Goals as goal

pub slice_bounds-out-end : goal.slice_bounds-out-end
slice_bounds-out-end c = report_inside _ _ _ _ c.report_whole-length.ensures

pub slice_bounds-write_all-end : goal.slice_bounds-write_all-end
slice_bounds-write_all-end c = sym (length-take-le _ _ (report_inside _ _ _ _ c.report_whole-length.ensures))
