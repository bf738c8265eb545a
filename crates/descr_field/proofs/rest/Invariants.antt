-- All end as the items from the gap on do; each item that is read leaves less of the text.
use mathlib.Core.Path.{◌≡◌}
use lib.ListN.{length}
use Rattle.literal_bytes.specs.Got.{pos}
use Rattle.literal_bytes.specs.declared.Gap.TheVariants.{Item}
use Rattle.literal.proofs.Steps.{gap_left}
use Rattle.descr_field.specs.After.{items_from}
use Rattle.descr_field.proofs.rest.Given as goal

abbrev pub invariant-loop-g : goal.invariant-loop-g
invariant-loop-g l = pos (items_from l.room l.text l.close (Item l.from)) ≡ pos (items_from l.room l.text l.close l.g)

abbrev pub decreases-loop-g : goal.decreases-loop-g
decreases-loop-g l = gap_left (length l.text) l.g
