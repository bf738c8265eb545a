-- An entry of the dtype table as the struct `Entry` (src/lib.rt), a column for each of its numbers. That `flat` lists these numbers is `flat_entry` of proofs/Flat.antt.
use Rattle.std.specs.Prelude.{ℕ, List, ◌∷◌}
use Rattle.counts.specs.Number.{capped}
use Rattle.dtype.specs.declared.Entry.{Entry}
use Rattle.dtype.specs.TypeNumbers.{order_byte, letter_byte, units_number}
use Rattle.dtype.specs.Dtype.{Dtype, plain, array, record_of, size_of}
use Rattle.dtype.specs.Entries.{field_count, entries_of}

-- kind: 0 plain, 1 array, 2 record
abbrev pub kind_column : Dtype → ℕ
kind_column (plain t) = 0
kind_column (array n d) = 1
kind_column (record_of fs) = 2

-- order: the byte of the byte order, 0 if not plain
abbrev pub order_column : Dtype → ℕ
order_column (plain t) = order_byte t.order
order_column (array n d) = 0
order_column (record_of fs) = 0

-- letter: the byte of the letter, 0 if not plain
abbrev pub letter_column : Dtype → ℕ
letter_column (plain t) = letter_byte t.letter
letter_column (array n d) = 0
letter_column (record_of fs) = 0

-- number: a plain type's size, an array's length, a record's number of fields
abbrev pub number_column : Dtype → ℕ
number_column (plain t) = t.size
number_column (array n d) = n
number_column (record_of fs) = field_count fs

-- units: their number, 0 for none
abbrev pub units_column : Dtype → ℕ
units_column (plain t) = units_number t.units
units_column (array n d) = 0
units_column (record_of fs) = 0

-- the entry of d with the parent `up` and a name of m bytes; the size is capped at 2^64-1, so that every dtype has a table
abbrev pub entry_of : Dtype → (up m : ℕ) → Entry
entry_of d up m =
    record {
      parent = up;
      kind = kind_column d;
      order = order_column d;
      letter = letter_column d;
      number = number_column d;
      units = units_column d;
      extent = entries_of d;
      bytes = capped (size_of d);
      name = m;
    }

-- the numbers of an entry, followed by x
abbrev pub entry_numbers : Entry → List ℕ → List ℕ
entry_numbers e x =
    e.parent ∷ e.kind ∷ e.order ∷ e.letter ∷ e.number ∷ e.units ∷ e.extent ∷ e.bytes ∷ e.name ∷ x
