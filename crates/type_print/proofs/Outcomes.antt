-- No second outcome satisfies a statement of this crate's public functions.
use Rattle.refusal.specs.declared.Refusal.{Refusal}
use Rattle.counts.specs.declared.Bytes.{Bytes}
use Rattle.std.specs.Prelude.{Result}
use Prim.Native.Nat.{ℕ, ◌^◌, ◌<◌}
use mathlib.Core.List.{List}
use Rattle.counts.specs.OneOutcome.{OneOutcome}
use Rattle.counts.proofs.Owes.{owes_one}
use Rattle.emit.specs.Emits.{Emits}
use Rattle.emit.proofs.Outcomes.{emits_one}
use Rattle.refusal.specs.Answers.{bytes_answer}
use Rattle.refusal.proofs.Answers.{bytes_one}
use Rattle.type_str.specs.Text.{type_text, type_printed}
use Rattle.type_str.specs.declared.TypeStr.{TypeStr}
use Rattle.type_print.specs.Printed.{Prints}

pub print_one : (t : TypeStr) (room : List ℕ) → OneOutcome {A = Result Bytes Refusal × List ℕ} (λ r. Prints t room r.0 r.1)
print_one t room = owes_one bytes_answer bytes_one (type_printed t room) room

pub type_put_one : (t : TypeStr) (old : List ℕ) (at : ℕ) → OneOutcome {A = List ℕ × ℕ} (λ r. Emits (type_text t) old at r.0 r.1 × (r.1 < 2 ^ 64))
type_put_one t = emits_one (type_text t)
