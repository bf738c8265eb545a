-- No second outcome satisfies the statement of this crate's public function: it states `Emits`, for which `emits_one` of emit serves.
use Prim.Native.Nat.{ℕ, ◌^◌, ◌<◌}
use mathlib.Core.List.{List}
use Rattle.counts.specs.OneOutcome.{OneOutcome}
use Rattle.emit.specs.Emits.{Emits}
use Rattle.emit.proofs.Outcomes.{emits_one}
use Rattle.list_text.specs.Listing.{parent_text}

pub put_parent_one : (e parent : ℕ) (old : List ℕ) (at : ℕ) → OneOutcome {A = List ℕ × ℕ} (λ r. Emits (parent_text e parent) old at r.0 r.1 × (r.1 < 2 ^ 64))
put_parent_one e parent = emits_one (parent_text e parent)
