-- What a caller has of a record after a header was read: the answer, and the fronts of the three lent rooms, as long as the answer says. Document 01, "The record":
-- "records are equal exactly when tables, names, shapes and orders are."
use Rattle.std.specs.Prelude.{ℕ, ◌*◌, ◌≡◌, List, length, take}
use Rattle.dtype.specs.declared.Order.{Order}
use Rattle.dtype.specs.Record.{entry_width, Record, table, names}
use Rattle.record.specs.Rooms.{Lent}
use Rattle.check_record.specs.Valid.{Valid}
use Rattle.header.specs.declared.RecordInfo.{RecordInfo}

-- the fronts
abbrev pub table_stored : RecordInfo → Lent → List ℕ
table_stored info l = take (entry_width * info.entries) l.table

abbrev pub names_stored : RecordInfo → Lent → List ℕ
names_stored info l = take info.names l.names

abbrev pub shape_stored : RecordInfo → Lent → List ℕ
shape_stored info l = take info.rank l.shape

-- they are this table, these names and this shape, with this order, and the answer has their lengths
pub record Fronts (t ns s : List ℕ) (o : Order) (info : RecordInfo) (l : Lent) : Type 0 where
  pub order_is : info.order ≡ o
  pub table_is : table_stored info l ≡ t
  pub names_are : names_stored info l ≡ ns
  pub shape_is : shape_stored info l ≡ s
  pub entries_are : entry_width * info.entries ≡ length t
  pub name_bytes_are : info.names ≡ length ns
  pub rank_is : info.rank ≡ length s

-- the fronts are a record's own parts, and valid
pub record Holds (r : Record) (info : RecordInfo) (l : Lent) : Type 0 where
  pub fronts : Fronts (table r.dtype) (names r.dtype) r.shape r.order info l
  pub valid : Valid (table_stored info l) (names_stored info l) (shape_stored info l) info.order r
