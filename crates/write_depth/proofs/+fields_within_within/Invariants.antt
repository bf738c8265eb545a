use Prim.Native.Nat.{◌+◌, ◌-◌, ◌*◌}
use mathlib.Core.Path.{◌≡◌}
use lib.ListN.{length}
use Rattle.dtype.specs.Dtype.{Fields}
use Rattle.dtype.specs.Entries.{field_count}
use Rattle.write_depth.specs.Listed.{FieldsInTableAt}
use Rattle.write_depth.proofs.Nesting.{Passing}
use Rattle.write_depth.proofs.+fields_within_within.Given as goal

abbrev pub decreases-fields_within : goal.decreases-fields_within
decreases-fields_within l = 2 * (length l.table.now - l.e) + 1

abbrev pub decreases-within : goal.decreases-within
decreases-within l = 2 * (length l.table.now - l.e)

abbrev pub invariant-fields_within-loop : goal.invariant-fields_within-loop
invariant-fields_within-loop l = (fs : Fields) → l.count ≡ field_count fs → FieldsInTableAt l.table l.e fs → Passing l.table l.e l.k l.c l.counter fs
