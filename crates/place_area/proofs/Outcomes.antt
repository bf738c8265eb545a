-- No second outcome meets the contracts of this crate.
use Rattle.refusal.specs.Answers.{answer}
use Rattle.counts.specs.declared.Bytes.{Bytes}
use Rattle.std.specs.Prelude.{Option}
use Prim.Native.Nat.{ℕ, ◌+◌, ◌*◌}
use mathlib.Core.Path.{◌≡◌}
use mathlib.Core.Bool.{Bool}
use mathlib.Core.List.{List}
use lib.Dec.{ltb}
use lib.ListN.{take, drop}
use Rattle.counts.specs.OneOutcome.{OneOutcome}
use Rattle.counts.specs.Number.{number}
use Rattle.counts.specs.Counts.{bytes}
use Rattle.counts.proofs.OneOutcome.{by_equation}
use Rattle.place_area.specs.declared.Run.{Run}
use Rattle.refusal.proofs.Answers.{whole_one}
use Rattle.dtype.specs.declared.Order.{Order}
use Rattle.place_area.specs.Indexed.{indexed}

pub is_short_one : (file start count size : ℕ) → OneOutcome {A = Bool} (λ r. r ≡ ltb file (start + count * size))
is_short_one file start count size = by_equation (ltb file (start + count * size))

pub first_byte_one : (start which size offset : ℕ) → OneOutcome {A = Option Bytes} (λ r. r ≡ bytes (number (start + which * size + offset)))
first_byte_one start which size offset = by_equation (bytes (number (start + which * size + offset)))

-- an outcome of `part` is the bytes of the part
pub part_one : (file : List ℕ) (r : Run) → OneOutcome {A = List ℕ} (λ y. y ≡ take r.len.0 (drop r.first.0 file))
part_one file r = by_equation (take r.len.0 (drop r.first.0 file))

pub item_one : (file start : ℕ) (size : Option Bytes) (count : ℕ) (o : Order) (s x : List ℕ) → OneOutcome (λ r. answer r ≡ indexed file start size count o s x)
item_one file start size count o s x = whole_one (indexed file start size count o s x)
