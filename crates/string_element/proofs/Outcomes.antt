-- No second outcome meets the contracts of this crate.
use Rattle.counts.specs.declared.Points.{Points}
use Rattle.refusal.specs.declared.Refusal.{Refusal}
use Rattle.counts.specs.declared.Bytes.{Bytes}
use Rattle.std.specs.Prelude.{None, Some, Result, Option}
use Prim.Native.Nat.{ℕ}
use mathlib.Core.Path.{◌≡◌, refl}
use mathlib.Core.Bool.{Bool}
use mathlib.Core.List.{List}
use lib.ListN.{length, drop}
use Rattle.counts.specs.Outcome.{Outcome, gives, refused, each}
use Rattle.counts.specs.OneOutcome.{OneOutcome}
use Rattle.counts.proofs.OneOutcome.{by_equation, by_inverse}
use Rattle.refusal.specs.Answers.{bytes_answer, points_answer}
use Rattle.refusal.proofs.Answers.{bytes_one, points_one}
use Rattle.type_letters.specs.declared.Endianness.{Endianness}
use Rattle.type_str.specs.declared.TypeStr.{TypeStr}
use Rattle.string_value.specs.Elements.{trimmed, point, points}
use Rattle.utf8_scalar.specs.Scalar.{all_scalars}
use Rattle.counts.specs.Owes.{Owes}
use Rattle.string_value.specs.Rooms.{read_bytes, read_points, write_bytes, write_points}
use Rattle.counts.proofs.Owes.{owes_one}
use Rattle.string_element.specs.Answer.{point_answer}

point_back : Outcome ℕ → Option ℕ
point_back (gives c) = Some c
point_back (refused n) = None

point_same : (r : Option ℕ) → point_back (point_answer r) ≡ r
unfolding point_back
point_same (Some c) = refl
point_same None = refl

pub point_at_one : (order : Endianness) (at : ℕ) (run : List ℕ) → OneOutcome (λ r. point_answer r ≡ point order (drop at run))
point_at_one order at run = by_inverse point_answer point_back point_same (point order (drop at run))

pub judge_one : (order : Endianness) (run : List ℕ) → OneOutcome (λ r. points_answer r ≡ each (λ (ps : List ℕ). length (trimmed ps)) (points order run))
judge_one order run = points_one (each (λ (ps : List ℕ). length (trimmed ps)) (points order run))

pub all_scalars_one : (value : List ℕ) → OneOutcome {A = Bool} (λ r. r ≡ all_scalars value)
all_scalars_one value = by_equation (all_scalars value)

-- an outcome is the answer and the room's final content
pub read_bytes_one : (t : TypeStr) (run room : List ℕ) → OneOutcome {A = Result Bytes Refusal × List ℕ} (λ r. Owes (read_bytes t run room) room (bytes_answer r.0) r.1)
read_bytes_one t run room = owes_one bytes_answer bytes_one (read_bytes t run room) room

pub read_points_one : (t : TypeStr) (run room : List ℕ) → OneOutcome {A = Result Points Refusal × List ℕ} (λ r. Owes (read_points t run room) room (points_answer r.0) r.1)
read_points_one t run room = owes_one points_answer points_one (read_points t run room) room

pub write_bytes_one : (t : TypeStr) (value room : List ℕ) → OneOutcome {A = Result Bytes Refusal × List ℕ} (λ r. Owes (write_bytes t value room) room (bytes_answer r.0) r.1)
write_bytes_one t value room = owes_one bytes_answer bytes_one (write_bytes t value room) room

pub write_points_one : (t : TypeStr) (value room : List ℕ) → OneOutcome {A = Result Bytes Refusal × List ℕ} (λ r. Owes (write_points t value room) room (bytes_answer r.0) r.1)
write_points_one t value room = owes_one bytes_answer bytes_one (write_points t value room) room
