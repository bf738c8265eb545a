-- The table after an entry was written for a plain type, for a record, or for the array levels of a sub-shape. Document 01, "The record": "The dtype table is
-- listed depth first, left to right, parent first: one entry for each plain type, array level and record." Entries are defined in crate dtype: kind 1 is an array,
-- kind 2 a record.
use Rattle.refusal.specs.declared.Refusal.{Refusal}
use Rattle.std.specs.Prelude.{ℕ, zero, suc, ◌+◌, ◌-◌, ◌*◌, ◌/◌, List, [], ◌∷◌, cond, ltb, length, Err, Ok, Result}
use Rattle.std.proofs.lemmas.List.Edits.{sets}
use Rattle.type_letters.specs.declared.Endianness.TheVariants.{Irrelevant}
use Rattle.type_letters.specs.declared.TypeChar.TheVariants.{Object}
use Rattle.type_units.specs.declared.TimeUnits.TheVariants.{Absent}
use Rattle.type_str.specs.declared.TypeStr.{TypeStr}
use Rattle.dtype.specs.declared.Entry.{Entry}
use Rattle.counts.specs.Number.{capped}
use Rattle.dtype.specs.Record.{entry_width}
use Rattle.dtype.specs.EntryOf.{entry_numbers}
use Rattle.table_fill.specs.Lifted.{lifted}

-- a placeholder where no type was read
abbrev pub no_type : TypeStr
no_type = record { order = Irrelevant; letter = Object; size = 0; units = Absent }

-- the type that was read, or the placeholder
abbrev pub type_in : Result TypeStr Refusal → TypeStr
type_in (Ok t) = t
type_in (Err why) = no_type

-- the table with e as its entry number `at`; unchanged where it has no room for that
abbrev pub put : (table : List ℕ) (at : ℕ) → Entry → List ℕ
put table at e = cond (ltb at (length table / entry_width)) (sets table (entry_width * at) (entry_numbers e [])) table

-- the entry of an array level or a record, with the numbers of a type 0
abbrev pub bare : (kind up number extent bytes m : ℕ) → Entry
bare kind up number extent bytes m =
    record { parent = up; kind = kind; order = 0; letter = 0; number = number; units = 0; extent = extent; bytes = bytes; name = m }

-- the parent of level k of a field whose first entry is `entry`: the field's own, or the level before it
abbrev pub up_of : ℕ → (entry up : ℕ) → ℕ
up_of zero entry up = up
up_of (suc k) entry up = entry + k

-- the name of level k of a field: only the outermost has one
abbrev pub name_of : ℕ → ℕ → ℕ
name_of zero m = m
name_of (suc k) m = 0

-- the size of the levels ns around a type of this size, as an entry holds it
abbrev pub size_over : List ℕ → ℕ → ℕ
size_over [] size = size
size_over (n ∷ ns) size = capped (n * size_over ns size)

-- the table with the levels ns as its entries from `at` on, around a type of this size whose entries end before `last`
abbrev pub levelled : (ns : List ℕ) (at up m last size : ℕ) (table : List ℕ) → List ℕ
levelled [] at up m last size table = table
levelled (n ∷ ns) at up m last size table =
    put (levelled ns (suc at) at 0 last size table) at (bare 1 up n (last - at) (size_over (n ∷ ns) size) m)

-- the table with the levels ns around a type of this size, whose entries, from `entry` up to `last`, are moved to make room
abbrev pub above : (ns : List ℕ) (entry up m last size : ℕ) (table : List ℕ) → List ℕ
above [] entry up m last size table = table
above (n ∷ ns) entry up m last size table =
    levelled (n ∷ ns) entry up m (capped (last + suc (length ns))) size (lifted table entry (last - entry) (suc (length ns)))
