-- No second outcome satisfies a statement of this crate's public functions.
use Rattle.header.specs.declared.Header.{Header}
use Rattle.refusal.specs.declared.Refusal.{Refusal}
use Rattle.std.specs.Prelude.{Result}
use Prim.Native.Nat.{ℕ}
use mathlib.Core.Path.{refl}
use mathlib.Core.List.{List}
use lib.ListN.{length}
use Rattle.counts.specs.OneOutcome.{OneOutcome}
use Rattle.counts.specs.Lists.{at_front}
use Rattle.counts.specs.Owes.{roomed}
use Rattle.counts.specs.declared.Bytes.{Bytes}
use Rattle.counts.proofs.OneOutcome.{by_equation, by_inverse, beside}
use Rattle.counts.proofs.Owes.{owes_one}
use Rattle.refusal.specs.Answers.{bytes_answer}
use Rattle.refusal.proofs.Answers.{bytes_one}
use Rattle.record.specs.Rooms.{Lent}
use Rattle.list_file.specs.Report.{report_of, Reports}
use Rattle.list_file.specs.Said.{said_text, WritesSaid}
use Rattle.list_file.specs.Enough.{WritesReport}

pub report_one : (file room : List ℕ) → OneOutcome {A = Result Bytes Refusal × List ℕ} (λ r. Reports file room r.0 r.1)
report_one file room = owes_one bytes_answer bytes_one (roomed 28 room (report_of file)) room

pub report_whole_one : (file room : List ℕ) → OneOutcome {A = Bytes × List ℕ} (λ r. WritesReport file room r.0 r.1)
report_whole_one file room x y p q =
    beside (by_inverse (λ (n : Bytes). n.0) (λ n. record { 0 = n }) (λ n. refl) (length (report_of file))) (by_equation (at_front (report_of file) room)) x y
    (p.answered, p.after) (q.answered, q.after)

pub put_read_one : (r : Result Header Refusal) (l : Lent) (room : List ℕ) → OneOutcome {A = Result Bytes Refusal × List ℕ} (λ x. WritesSaid r l room x.0 x.1)
put_read_one r l room = owes_one bytes_answer bytes_one (said_text r l room) room
