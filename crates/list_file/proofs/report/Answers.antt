-- `list_file::report` meets its contract: the text for what is said of the bytes that are held is that of the file.
use Prim.Native.Nat.{ℕ, ◌*◌}
use lib.ListN.{length-replicate}
use Rattle.dtype.specs.Record.{entry_width}
use Rattle.list_file.proofs.Whole.{reports_said}
use Rattle.list_file.proofs.report.Goals as goal

pub returns : goal.returns
returns c =
    reports_said _ _ _ _ _ _ c.put_read.result _ c.held_part.ensures
    (length-replicate {A = ℕ} (entry_width * 512) 0) (length-replicate {A = ℕ} 16384 0) (length-replicate {A = ℕ} 32 0) c.read_held-r.ensures c.put_read.ensures
