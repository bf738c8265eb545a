-- THE CHECK ACCEPTS WHAT A READING GIVES, and nothing else, 13, 20 to 22, 7 and 4 aside. What a reading gives is sound (crate record), and a sound record is readable:
-- it has none of the faults that are 27. The other way round, a readable dtype is sound, if the numbers of its table are below 2^64: an array's length is one of them.
use Prim.Native.Nat.{ℕ, suc, ◌+◌}
use native.Mathlib.Omega.{arith}
use mathlib.Core.Path.{◌≡◌, refl, subst}
use mathlib.Core.List.{List, []}
use mathlib.Core.Bool.{false}
use lib.ListN.{length}
use Rattle.counts.specs.Outcome.{gives}
use Rattle.dtype.specs.declared.Order.{Order}
use Rattle.dtype.specs.Dtype.{Dtype, Fields, plain, array, record_of, end_of_fields, field_then}
use Rattle.dtype.specs.Entries.{entries_of}
use Rattle.dtype.specs.Record.{flat, flats, Record, table, names}
use Rattle.dtype.specs.EntryOf.{entry_of}
use Rattle.dtype.specs.Limits.{limited}
use Rattle.dtype.proofs.Record.{table_of_all}
use Rattle.record.specs.Layout.{levels_of}
use Rattle.record.specs.Rooms.{Rooms}
use Rattle.record.specs.Header.{Header, Reading, Keeps, header_by}
use Rattle.record.specs.Sound.{Small}
use Rattle.record.proofs.Sound.{Good, AllGood, Sound, small_entry}
use Rattle.record.proofs.RoundTrips.{read_readable}
use Rattle.check_table.specs.Reading.{Readable, AllReadable, is_array, read_dtype}
use Rattle.check_table.proofs.Readable.{readable_typed, readable_named}
use Rattle.check_record.specs.Checked.{checked_record}
use Rattle.check_record.specs.Valid.{Valid}

-- ---- a sound dtype is readable
mutual
  good_readable : (d : Dtype) → Good d → Readable d
  good_readable (plain t) h = h
  good_readable (array n d) h = good_readable d h.1
  good_readable (record_of fs) h = all_good_readable fs h

  all_good_readable : (fs : Fields) → AllGood fs → AllReadable fs
  all_good_readable end_of_fields h = tt
  all_good_readable (field_then name d fs) h = (h.0, good_readable d h.1, all_good_readable fs h.2)

no_level : (d : Dtype) → levels_of d ≡ [] → is_array d ≡ false
no_level (plain t) h = refl
no_level (array n d) h = absurd (let z : ◌≡◌ {A = ℕ} 0 1 = cc in omega arith)
no_level (record_of fs) h = refl

pub sound_read : (r : Record) → Sound r → read_dtype (table r.dtype) (names r.dtype) ≡ gives r.dtype
unfolding read_dtype
sound_read r s =
    simp (table_of_all r.dtype, no_level r.dtype s.no_array, readable_typed r.dtype (good_readable r.dtype s.good), readable_named r.dtype (good_readable r.dtype s.good))

pub sound_checked : (r : Record) → Sound r → limited r ≡ gives r → checked_record (table r.dtype) (names r.dtype) r.shape r.order ≡ gives r
unfolding checked_record
sound_checked r s l = rw (checked_record, sound_read r s) l

-- WHAT WAS READ IS ACCEPTED
pub read_checked : (reading : Reading) → Keeps reading → (file : List ℕ) (rooms : Rooms) (h : Header) → header_by reading false file rooms ≡ gives h
    → checked_record (table h.says.dtype) (names h.says.dtype) h.says.shape h.says.order ≡ gives h.says
read_checked reading keeps file rooms h e = let w = (read_readable reading keeps file rooms h e).writable in sound_checked h.says w.sound w.limits

-- ---- a readable dtype is sound, where the numbers of its table are small
mutual
  readable_good : (d : Dtype) (at up m : ℕ) (x : List ℕ) → Readable d → Small (flat d at up m x) → Good d × Small x
  readable_good (plain t) at up m x p h = (p, (small_entry (entry_of (plain t) up m) x h).1)
  readable_good (array n d) at up m x p h =
      let this = small_entry (entry_of (array n d) up m) (flat d (suc at) at 0 x) h in
      let below = readable_good d (suc at) at 0 x p this.1 in
      ((this.0, below.0), below.1)
  readable_good (record_of fs) at up m x p h = readable_all_good fs (suc at) at x p (small_entry (entry_of (record_of fs) up m) (flats fs (suc at) at x) h).1

  readable_all_good : (fs : Fields) (at up : ℕ) (x : List ℕ) → AllReadable fs → Small (flats fs at up x) → AllGood fs × Small x
  readable_all_good end_of_fields at up x p h = (tt, h)
  readable_all_good (field_then name d fs) at up x p h =
      let this = readable_good d at up (length name) (flats fs (at + entries_of d) up x) p.1 h in
      let rest = readable_all_good fs (at + entries_of d) up x p.2 this.1 in
      ((p.0, this.0, rest.0), rest.1)

level_none : (d : Dtype) → is_array d ≡ false → levels_of d ≡ []
level_none (plain t) h = refl
level_none (array n d) h = absurd (let z : ◌≡◌ {A = ℕ} 0 1 = cc in omega arith)
level_none (record_of fs) h = refl

-- WHAT IS ACCEPTED IS SOUND
pub valid_sound : (t ns s : List ℕ) (o : Order) (r : Record) → Valid t ns s o r → Small t → Small s → Sound r
valid_sound t ns s o r v ht hs =
    record {
      good = (readable_good r.dtype 0 0 0 [] v.readable (subst Small v.table_is ht)).0;
      no_array = level_none r.dtype v.no_array;
      small = subst Small v.shape_is hs;
    }
