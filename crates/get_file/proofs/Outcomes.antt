-- No second outcome satisfies a statement of this crate's public functions.
use Rattle.refusal.specs.Answers.{answer}
use Rattle.std.specs.Prelude.{None, Some, Option}
use Prim.Native.Nat.{ℕ}
use mathlib.Core.Path.{◌≡◌, refl}
use mathlib.Core.Bool.{Bool}
use mathlib.Core.List.{List}
use Rattle.counts.specs.Outcome.{Outcome, gives, refused}
use Rattle.counts.specs.OneOutcome.{OneOutcome}
use Rattle.counts.specs.Owes.{Owes}
use Rattle.counts.proofs.OneOutcome.{by_inverse}
use Rattle.counts.proofs.Owes.{owes_one}
use Rattle.place.proofs.Outcomes.{placed_one}
use Rattle.get_file.specs.Found.{found_in}
use Rattle.get_file.specs.Numbers.{numbers_in, listed_answer}

listed_back : Outcome ℕ → Option ℕ
listed_back (gives n) = Some n
listed_back (refused k) = None

listed_same : (r : Option ℕ) → listed_back (listed_answer r) ≡ r
unfolding listed_back
listed_same (Some n) = refl
listed_same None = refl

pub find_one : (longer : Bool) (held : List ℕ) (file : ℕ) (x p : List ℕ) → OneOutcome (λ r. answer r ≡ found_in longer held file x p)
find_one longer held file x p = placed_one (found_in longer held file x p)

pub numbers_one : (text room : List ℕ) → OneOutcome {A = Option ℕ × List ℕ} (λ r. Owes (numbers_in text room) room (listed_answer r.0) r.1)
numbers_one text room = owes_one listed_answer (by_inverse listed_answer listed_back listed_same) (numbers_in text room) room
