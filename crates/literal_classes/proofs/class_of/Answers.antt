-- The entry of the table is the class.
use Prim.Native.Nat.{ℕ, ◌*◌, ◌-◌, ◌/◌, ◌%◌, ◌^◌}
use mathlib.Core.Path.{ap, ◌∙◌}
use Rattle.literal_classes.specs.Table.{class_entry}
use Rattle.literal_classes.proofs.Table.{table_right}
use Rattle.literal_classes.proofs.class_of.Goals as goal

pub returns : goal.returns
unfolding class_entry
returns c = ap (λ (x : ℕ). x / 2 ^ ((15 - c.args.b % 16) * 4) % 16) c.row.ensures ∙ table_right c.args.b c.ranges.b.fits
