-- A record is refused with 23 exactly if a room is too short for it.
use Prim.Native.Nat.{◌/◌}
use native.Mathlib.Omega.{arith}
use mathlib.Core.Path.{◌≡◌}
use mathlib.Core.Bool.{false, ◌||◌}
use lib.Dec.{ltb}
use lib.ListN.{length}
use borrow.Author.Tests.{ltb-false, le-ltb}
use Rattle.dtype.specs.Record.{entry_width, name_bytes_of, Record, table, names}
use Rattle.dtype.specs.Entries.{entries_of}
use Rattle.dtype.proofs.Seen.{or_left, or_right}
use Rattle.record.specs.Rooms.{needs, too_small, Lent, rooms_of}
use Rattle.read_back.proofs.Rooms.{table_whole, names_whole}
use Rattle.claims.specs.Roomy.{Roomy}

pub roomy_fits : (r : Record) (l : Lent) → Roomy (table r.dtype) (names r.dtype) r.shape l → too_small (rooms_of l) (needs r) ≡ false
roomy_fits r l h =
    let t = le-ltb (length l.table / entry_width) (entries_of r.dtype) (omega (arith, h.table_fits, table_whole r)) in
    let n = le-ltb (length l.names) (name_bytes_of r.dtype) (omega (arith, h.names_fit, names_whole r)) in
    let s = le-ltb (length l.shape) (length r.shape) h.shape_fits in
    rw (t, n, s)

pub fits_roomy : (r : Record) (l : Lent) → too_small (rooms_of l) (needs r) ≡ false → Roomy (table r.dtype) (names r.dtype) r.shape l
fits_roomy r l h =
    let few = ltb (length l.table / entry_width) (entries_of r.dtype) in
    let short = ltb (length l.names) (name_bytes_of r.dtype) in
    let flat = ltb (length l.shape) (length r.shape) in
    let both = or_left (few || short) flat h in
    let entries = ltb-false (length l.table / entry_width) (entries_of r.dtype) (or_left few short both) in
    let bytes = ltb-false (length l.names) (name_bytes_of r.dtype) (or_right few short both) in
    record {
      table_fits = omega (arith, entries, table_whole r);
      names_fit = omega (arith, bytes, names_whole r);
      shape_fits = ltb-false (length l.shape) (length r.shape) (or_right (few || short) flat h);
    }
