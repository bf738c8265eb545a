-- No second outcome satisfies the statement of `write_header`: an outcome is its answer, and what the room then holds.
use Rattle.refusal.specs.declared.Refusal.{Refusal}
use Rattle.counts.specs.declared.Bytes.{Bytes}
use Rattle.std.specs.Prelude.{Result}
use Prim.Native.Nat.{ℕ}
use mathlib.Core.List.{List}
use Rattle.counts.specs.OneOutcome.{OneOutcome}
use Rattle.counts.proofs.Owes.{owes_one}
use Rattle.refusal.specs.Answers.{bytes_answer}
use Rattle.refusal.proofs.Answers.{bytes_one}
use Rattle.dtype.specs.declared.Order.{Order}
use Rattle.write.specs.Writes.{header_written, WritesHeader}

pub write_header_one : (t ns s : List ℕ) (o : Order) (room : List ℕ) → OneOutcome {A = Result Bytes Refusal × List ℕ} (λ r. WritesHeader t ns s o room r.0 r.1)
write_header_one t ns s o room = owes_one bytes_answer bytes_one (header_written t ns s o room) room
