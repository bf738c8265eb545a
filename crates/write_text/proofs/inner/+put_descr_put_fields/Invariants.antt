use Prim.Native.Nat.{◌+◌, ◌-◌, ◌*◌}
use mathlib.Core.Path.{◌≡◌}
use lib.ListN.{length}
use Rattle.dtype.specs.Dtype.{Fields}
use Rattle.dtype.specs.Entries.{field_count}
use Rattle.write_text.specs.Walk.{ListedNamedIn}
use Rattle.write_text.proofs.Walking.{Going}
use Rattle.write_text.proofs.inner.+put_descr_put_fields.Given as goal

abbrev pub decreases-put_descr : goal.decreases-put_descr
decreases-put_descr l = 2 * (length l.table.now - l.e)

abbrev pub decreases-put_fields : goal.decreases-put_fields
decreases-put_fields l = 2 * (length l.table.now - l.e) + 1

abbrev pub invariant-put_fields-loop : goal.invariant-put_fields-loop
invariant-put_fields-loop l =
    (fs : Fields) → l.count ≡ field_count fs → ListedNamedIn l.table l.names l.e l.b fs → Going l.table l.names l.e l.b l.initial.out l.at l.out l.c l.start l.p l.counter fs
