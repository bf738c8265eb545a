-- What the listing program prints is the text of the whole file (specs/Program.antt): list_file shows that the first 65,537 bytes give it, and that it fits the room.
use Prim.Native.Nat.{ℕ, suc, ◌≤◌}
use mathlib.Core.Path.{◌≡◌, sym, ap, subst, ◌∙◌}
use mathlib.Core.List.{List}
use lib.ListN.{length, take}
use Rattle.counts.specs.Lists.{at_front}
use Rattle.record.specs.Header.{Reading, Keeps}
use Rattle.list_file.specs.Report.{held_most}
use Rattle.list_file.proofs.Enough.{front_reports, report_fits}
use Rattle.read_back.proofs.Rooms.{front}
use Rattle.claims.specs.Functions.{report_by}
use Rattle.claims.specs.Program.{ProgramPrints}
use Rattle.claims.proofs.Readings.{report_same}

front_by : (reading : Reading) → Keeps reading → (file : List ℕ) → report_by reading (take (suc held_most) file) ≡ report_by reading file
front_by reading keeps file = sym (report_same reading keeps (take (suc held_most) file)) ∙ front_reports file ∙ report_same reading keeps file

pub program_prints : ProgramPrints
program_prints file out out' n h reading keeps =
    let same = front_by reading keeps file in
    let len = h.answered reading keeps ∙ ap length same in (
      ap (take n.0) (h.after reading keeps ∙ ap (λ (text : List ℕ). at_front text out) same) ∙ front n.0 (report_by reading file) out len,
      len,
      subst (λ (k : ℕ). k ≤ 131072) (ap length (report_same reading keeps file) ∙ sym len) (report_fits file),
    )
