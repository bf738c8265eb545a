-- What a reading that gives a header leaves in the rooms: the record of the file, each part at its room's front.
use Prim.Native.Nat.{ℕ, ◌*◌}
use native.Mathlib.Omega.{arith}
use mathlib.Core.Path.{◌≡◌, refl}
use mathlib.Core.List.{List, []}
use lib.ListN.{length, take, drop}
use lib.Seq.{take-append_seam}
use Rattle.counts.specs.Outcome.{gives}
use Rattle.dtype.specs.Record.{entry_width, name_bytes_of, Record, table, names}
use Rattle.dtype.specs.Entries.{entries_of}
use Rattle.dtype.proofs.Flat.{flat_length, names_length}
use Rattle.counts.specs.Lists.{at_front}
use Rattle.record.specs.Rooms.{Lent, holding}
use Rattle.header.specs.declared.RecordInfo.{RecordInfo}
use Rattle.header.specs.Reads.{info_of}
use Rattle.check_record.specs.Checked.{checked_record}
use Rattle.read_back.specs.Rooms.{table_stored, names_stored, shape_stored, Fronts}

-- rooms that hold a record have its parts at their fronts
pub table_whole : (r : Record) → entry_width * entries_of r.dtype ≡ length (table r.dtype)
table_whole r = omega (arith, flat_length r.dtype 0 0 0 [])

pub names_whole : (r : Record) → name_bytes_of r.dtype ≡ length (names r.dtype)
names_whole r = omega (arith, names_length r.dtype [])

-- what was put at the front is found there
pub front : (n : ℕ) (new old : List ℕ) → n ≡ length new → take n (at_front new old) ≡ new
front n new old e = rw e (take-append_seam new (drop (length new) old))

abbrev pub Parts : Record → RecordInfo → Lent → Type 0
Parts r info l = Fronts (table r.dtype) (names r.dtype) r.shape r.order info l

holding_fronts : (r : Record) (l : Lent) → Parts r (info_of r) (holding r l)
holding_fronts r l =
    record {
      order_is = refl;
      table_is = front (entry_width * entries_of r.dtype) (table r.dtype) l.table (table_whole r);
      names_are = front (name_bytes_of r.dtype) (names r.dtype) l.names (names_whole r);
      shape_is = front (length r.shape) r.shape l.shape refl;
      entries_are = table_whole r;
      name_bytes_are = names_whole r;
      rank_is = refl;
    }

-- the fronts are accepted as the parts of the record are
pub checked_fronts : (r : Record) (info : RecordInfo) (l : Lent) → Parts r info l → checked_record (table r.dtype) (names r.dtype) r.shape r.order ≡ gives r
    → checked_record (table_stored info l) (names_stored info l) (shape_stored info l) info.order ≡ gives r
checked_fronts r info l p e = rw (p.table_is, p.names_are, p.shape_is, p.order_is) e

-- rooms into which a record was stored
pub fronts_by : (r : Record) (l l' : Lent) (info : RecordInfo) → info ≡ info_of r → l' ≡ holding r l → Parts r info l'
fronts_by r l l' info p q = rw (p, q) (holding_fronts r l)
