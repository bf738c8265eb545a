-- No second outcome satisfies the statement of this crate's public function.
use Rattle.refusal.specs.declared.Refusal.{Refusal}
use Rattle.counts.specs.declared.Bytes.{Bytes}
use Rattle.std.specs.Prelude.{Result}
use Prim.Native.Nat.{ℕ}
use mathlib.Core.List.{List}
use Rattle.counts.specs.Outcome.{then}
use Rattle.counts.specs.OneOutcome.{OneOutcome}
use Rattle.counts.specs.Owes.{roomed}
use Rattle.counts.proofs.Owes.{owes_one}
use Rattle.refusal.specs.Answers.{bytes_answer}
use Rattle.refusal.proofs.Answers.{bytes_one}
use Rattle.type_str.specs.declared.TypeStr.{TypeStr}
use Rattle.element_text.specs.Text.{element_text}
use Rattle.element_text.specs.Puts.{PutsElement}

pub put_one : (t : TypeStr) (run room : List ℕ) → OneOutcome {A = Result Bytes Refusal × List ℕ} (λ r. PutsElement t run room r.0 r.1)
put_one t run room = owes_one bytes_answer bytes_one (then (element_text t run) (roomed 28 room)) room
