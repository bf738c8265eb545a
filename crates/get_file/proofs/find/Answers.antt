-- A place in what was read, or the refusal.
use Rattle.counts.proofs.HandedOn.{handed_on}
use Prim.Native.Nat.{ℕ, ◌*◌}
use lib.ListN.{length-replicate}
use Rattle.dtype.specs.Record.{entry_width}
use Rattle.get_file.proofs.Finds.{finds_place, finds_none}
use Rattle.get_file.proofs.find.Goals as goal

pub returns : goal.returns
returns c = finds_place _ _ _ _ _ _ _ _ (length-replicate {A = ℕ} (entry_width * 512) 0) (length-replicate {A = ℕ} 65536 0) (length-replicate {A = ℕ} 32 0) c.read_held.ensures _ c.find_in.result c.in_ok-h.was c.find_in.ensures

pub returns-in_err-h : goal.returns-in_err-h
returns-in_err-h c = rw (handed_on _ c.in_err-h.field-0.0 c.from_residual.ensures)
    (finds_none _ _ _ _ _ _ _ _ (length-replicate {A = ℕ} (entry_width * 512) 0) (length-replicate {A = ℕ} 65536 0) (length-replicate {A = ℕ} 32 0) c.read_held.ensures _ c.in_err-h.was)
