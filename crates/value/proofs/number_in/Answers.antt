-- `value::number_in` meets its contract: the number in eight bytes is below 2^64.
use Prim.Native.Nat.{ℕ}
use mathlib.Core.Path.{◌≡◌, refl, sym, ◌∙◌}
use Rattle.std.specs.Prelude.{Option, None, Some, IsSome}
use Rattle.value.proofs.Runs.{not_over, is_number}
use Rattle.value.proofs.number_in.Goals as goal

is_there : (r : Option ℕ) → (r ≡ None → ⊥) → IsSome r
is_there None h = absurd (h refl)
is_there (Some n) h = refl

pub unwrap-requires : goal.unwrap-requires
unwrap-requires c = is_there c.read.result (λ e. not_over c.args.order c.args.run.now c.shared_slice_known-1.given c.requires (sym e ∙ c.read.ensures))

pub returns : goal.returns
returns c = is_number c.args.order c.args.run.now c.shared_slice_known-1.given c.requires _ (sym c.unwrap.ensures ∙ c.read.ensures)
