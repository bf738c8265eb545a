-- No second outcome meets the contract of `place`.
use Rattle.refusal.specs.Answers.{answer}
use Prim.Native.Nat.{ℕ}
use mathlib.Core.Path.{◌≡◌}
use mathlib.Core.List.{List}
use Rattle.counts.specs.Outcome.{Outcome}
use Rattle.counts.specs.OneOutcome.{OneOutcome}
use Rattle.refusal.proofs.Answers.{whole_one}
use Rattle.dtype.specs.declared.Order.{Order}
use Rattle.place_area.specs.declared.Run.{Run}
use Rattle.place.specs.Place.{place_of}

pub placed_one : (o : Outcome Run) → OneOutcome (λ r. answer r ≡ o)
placed_one o = whole_one o

pub place_one : (file start : ℕ) (t ns s : List ℕ) (o : Order) (x p : List ℕ) → OneOutcome (λ r. answer r ≡ place_of file start t ns s o x p)
place_one file start t ns s o x p = placed_one (place_of file start t ns s o x p)
