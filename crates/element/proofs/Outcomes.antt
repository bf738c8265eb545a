-- No second outcome meets the contracts of this crate: an outcome is the answer and the room's final content.
use Rattle.counts.specs.declared.Points.{Points}
use Rattle.refusal.specs.declared.Refusal.{Refusal}
use Rattle.counts.specs.declared.Bytes.{Bytes}
use Rattle.std.specs.Prelude.{Result}
use Prim.Native.Nat.{ℕ}
use mathlib.Core.Path.{◌≡◌}
use mathlib.Core.List.{List}
use Rattle.counts.specs.OneOutcome.{OneOutcome}
use Rattle.refusal.specs.Answers.{bytes_answer, points_answer, answer}
use Rattle.refusal.proofs.Answers.{bytes_one, points_one}
use Rattle.dtype.specs.declared.Order.{Order}
use Rattle.counts.specs.Owes.{Owes}
use Rattle.counts.proofs.Owes.{owes_one}
use Rattle.value.proofs.Outcomes.{value_one}
use Rattle.element.specs.Element.{element_bytes, element_points, element_value}

pub read_bytes_one : (file : List ℕ) (start : ℕ) (t ns s : List ℕ) (o : Order) (x p room : List ℕ)
    → OneOutcome {A = Result Bytes Refusal × List ℕ} (λ r. Owes (element_bytes file start t ns s o x p room) room (bytes_answer r.0) r.1)
read_bytes_one file start t ns s o x p room = owes_one bytes_answer bytes_one (element_bytes file start t ns s o x p room) room

pub read_points_one : (file : List ℕ) (start : ℕ) (t ns s : List ℕ) (o : Order) (x p room : List ℕ)
    → OneOutcome {A = Result Points Refusal × List ℕ} (λ r. Owes (element_points file start t ns s o x p room) room (points_answer r.0) r.1)
read_points_one file start t ns s o x p room = owes_one points_answer points_one (element_points file start t ns s o x p room) room

pub read_value_one : (file : List ℕ) (start : ℕ) (t ns s : List ℕ) (o : Order) (x p : List ℕ) → OneOutcome (λ r. answer r ≡ element_value file start t ns s o x p)
read_value_one file start t ns s o x p = value_one (element_value file start t ns s o x p)
