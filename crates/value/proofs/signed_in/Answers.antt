-- `value::signed_in` meets its contract: the number, and the largest of its width.
use mathlib.Core.Path.{ap, ◌∙◌}
use Prim.Native.Nat.{ℕ}
use lib.ListN.{length}
use Rattle.value.specs.Values.{most_of, signed_by}
use Rattle.value.proofs.Runs.{whole_few, at_most, most_small}
use Rattle.value.proofs.Complement.{back}
use Rattle.value.proofs.signed_in.Goals as goal

pub number_in-requires : goal.number_in-requires
number_in-requires c = whole_few _ c.requires

pub most_of-requires : goal.most_of-requires
most_of-requires c = c.requires

pub signed-requires : goal.signed-requires
signed-requires c = rw (c.number_in.ensures, c.most_of.ensures) (at_most c.args.order c.args.run.now c.shared_slice_known-1.given c.requires)

pub returns : goal.returns
returns c = back _ _ _ (most_small (length c.args.run.now) c.requires) (at_most c.args.order c.args.run.now c.shared_slice_known-1.given c.requires) (c.signed.ensures ∙ ap (λ (n : ℕ). signed_by n c.number_in.result) c.most_of.ensures ∙ ap (λ (n : ℕ). signed_by (most_of (length c.args.run.now)) n) c.number_in.ensures)
