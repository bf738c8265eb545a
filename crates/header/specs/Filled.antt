-- What the functions of module fill ask and what they owe. Document 01, "The record": "The dtype table is listed depth first, left to right, parent first: one
-- entry for each plain type, array level and record. Names are stored decoded, end to end in table order", and "The refusal numbers": "On success, room
-- beyond what was needed is unchanged." The table and the names themselves are crate dtype's.
use Rattle.std.specs.Prelude.{ℕ, ◌+◌, ◌*◌, ◌≤◌, ◌<◌, ◌≡◌, List, [], length}
use Rattle.std.proofs.lemmas.List.Edits.{sets}
use Rattle.counts.specs.Outcome.{gives}
use Rattle.dtype.specs.Dtype.{Dtype, Fields, plain, array, record_of, end_of_fields, field_then, size_of, sizes_of}
use Rattle.dtype.specs.Entries.{entries_of, entries_in, field_count, levels}
use Rattle.dtype.specs.Record.{name_bytes_of, name_bytes_in, names_of, names_in, entry_width, flat, flats}
use Rattle.counts.specs.Number.{capped}
use Rattle.record.specs.Descr.{perhaps, descr_of, fields_of}
use Rattle.literal_tokens.specs.Node.{Node, nodes}
use Rattle.literal_bytes.specs.Got.{got}
use Rattle.literal_bytes.specs.Text.{byte_at}
use Rattle.literal_escapes.specs.Strings.{Spelled, spelled}
use Rattle.literal.specs.Answer.{end_of}
use Rattle.descr_field.specs.Begins.{gap_place}
use Rattle.literal.specs.Literal.{value}
use Rattle.literal_bytes.specs.Gaps.{gap_at, then_at}
use Rattle.literal.specs.Rows.{RowOf}
use Rattle.literal.specs.Forget.{forget, forget_all}
use Rattle.table_fill.specs.Written.{size_over, above}
use Rattle.header.specs.declared.fill.DescrFilled.{DescrFilled}
use Rattle.header.specs.declared.fill.FieldsFilled.{FieldsFilled}
use Rattle.header.specs.declared.fill.NameFilled.{NameFilled}

-- no field has over 32 array levels
abbrev mutual
  pub Narrow : Dtype → Type 0
  Narrow (plain t) = Unit {0}
  Narrow (array n d) = (levels (array n d) ≤ 32) × Narrow d
  Narrow (record_of fs) = NarrowIn fs

  pub NarrowIn : Fields → Type 0
  NarrowIn end_of_fields = Unit {0}
  NarrowIn (field_then name d fs) = Narrow d × NarrowIn fs

-- ---- a field

-- ---- the head of a field that begins at `at` and is shut by `close`
-- where its name begins, what that spells, and where the inner descr begins
abbrev pub name_place : (s : List ℕ) (at close : ℕ) → ℕ
name_place s at close = gap_place (gap_at s (at + 1) close)

abbrev pub name_spelled : (s : List ℕ) (at close : ℕ) → Spelled
name_spelled s at close = spelled (byte_at s (name_place s at close)) s (name_place s at close + 1)

abbrev pub inner_place : (s : List ℕ) (at close : ℕ) → ℕ
inner_place s at close = gap_place (then_at s (end_of (name_spelled s at close).ended) close)

-- the text goes on to the name, and there is room for it
pub record DueHead (s : List ℕ) (at close byte : ℕ) (names : List ℕ) : Type 0 where
  pub inside : at < length s
  pub begins : name_place s at close < length s
  pub room : byte + length (name_spelled s at close).bytes ≤ length names

pub record Headed (s : List ℕ) (at close byte : ℕ) (names names' : List ℕ) (r : NameFilled) : Type 0 where
  pub counted : r.len ≡ length (name_spelled s at close).bytes
  pub next_name : r.byte ≡ byte + length (name_spelled s at close).bytes
  pub goes_on : r.inner ≡ inner_place s at close
  pub names_after : names' ≡ sets names byte (name_spelled s at close).bytes

-- ---- what comes after the inner descr of a field
-- it ended at q, and then comes nothing or a sub-shape: its dimensions are ns, and the field ends at e
pub record AfterInner (k : ℕ) (s : List ℕ) (close q e : ℕ) (ns : List ℕ) : Type 0 where
  pub us : List Node
  pub row : RowOf (value k s) s close us (then_at s q close) e
  pub few : length us ≤ 1
  pub shaped : perhaps (forget_all (nodes us)) ≡ gives ns
  pub low : length ns ≤ 32

-- the type of a field was written and ended at r; there is room for the levels ns
pub record DueShape (k : ℕ) (s : List ℕ) (close : ℕ) (table : List ℕ) (r : DescrFilled) (e : ℕ) (ns : List ℕ) : Type 0 where
  pub after : AfterInner k s close r.end e ns
  pub room : entry_width * (r.entry + length ns) ≤ length table

pub record Shaped (e entry up m : ℕ) (ns table table' : List ℕ) (r r' : DescrFilled) : Type 0 where
  pub ends : r'.end ≡ e
  pub next : r'.entry ≡ r.entry + length ns
  pub next_name : r'.byte ≡ r.byte
  pub sized : r'.size.0 ≡ size_over ns r.size.0
  pub table_after : table' ≡ above ns entry up m r.entry r.size.0 table

abbrev pub DueShapeAt : (k : ℕ) (s : List ℕ) (close : ℕ) (table : List ℕ) → DescrFilled → Type 0
DueShapeAt k s close table r = (e : ℕ) × (ns : List ℕ) × DueShape k s close table r e ns

abbrev pub Shapes : (k : ℕ) (s : List ℕ) (close entry up m : ℕ) (table table' : List ℕ) (r r' : DescrFilled) → Type 0
Shapes k s close entry up m table table' r r' = (e : ℕ) (ns : List ℕ) → DueShape k s close table r e ns → Shaped e entry up m ns table table' r r'

-- ---- a descr
-- the value at `at` is a descr that gives d, and there is room for d
pub record Due (k : ℕ) (s : List ℕ) (at entry : ℕ) (table : List ℕ) (byte : ℕ) (names : List ℕ) (n : Node) (e : ℕ) (d : Dtype) : Type 0 where
  pub there : value k s at ≡ got n e
  pub is : descr_of (forget n) ≡ gives d
  pub narrow : Narrow d
  pub room : entry_width * (entry + entries_of d) ≤ length table
  pub name_room : byte + name_bytes_of d ≤ length names

pub record Filled (e entry up m byte : ℕ) (d : Dtype) (table names table' names' : List ℕ) (r : DescrFilled) : Type 0 where
  pub ends : r.end ≡ e
  pub next : r.entry ≡ entry + entries_of d
  pub next_name : r.byte ≡ byte + name_bytes_of d
  pub sized : r.size.0 ≡ capped (size_of d)
  pub table_after : table' ≡ sets table (entry_width * entry) (flat d entry up m [])
  pub names_after : names' ≡ sets names byte (names_of d [])

-- ---- the fields of a record
-- the items from `from` on, up to `]` (93), are fields that give fs, and there is room for fs
pub record DueFields (k : ℕ) (s : List ℕ) (from entry : ℕ) (table : List ℕ) (byte : ℕ) (names : List ℕ) (ns : List Node) (e : ℕ) (fs : Fields) : Type 0 where
  pub row : RowOf (value k s) s 93 ns (gap_at s from 93) e
  pub is : fields_of (forget_all (nodes ns)) ≡ gives fs
  pub narrow : NarrowIn fs
  pub room : entry_width * (entry + entries_in fs) ≤ length table
  pub name_room : byte + name_bytes_in fs ≤ length names

pub record FilledFields (e entry up byte : ℕ) (fs : Fields) (table names table' names' : List ℕ) (r : FieldsFilled) : Type 0 where
  pub ends : r.end ≡ e
  pub next : r.entry ≡ entry + entries_in fs
  pub next_name : r.byte ≡ byte + name_bytes_in fs
  pub sized : r.size.0 ≡ capped (sizes_of fs)
  pub counted : r.count ≡ field_count fs
  pub table_after : table' ≡ sets table (entry_width * entry) (flats fs entry up [])
  pub names_after : names' ≡ sets names byte (names_in fs [])

-- ---- the same, whichever value the text has there
abbrev pub DueAt : (k : ℕ) (s : List ℕ) (at entry : ℕ) (table : List ℕ) (byte : ℕ) (names : List ℕ) → Type 0
DueAt k s at entry table byte names = (n : Node) × (e : ℕ) × (d : Dtype) × Due k s at entry table byte names n e d

abbrev pub Fills : (k : ℕ) (s : List ℕ) (at entry up m byte : ℕ) (table names table' names' : List ℕ) → DescrFilled → Type 0
Fills k s at entry up m byte table names table' names' r =
    (n : Node) (e : ℕ) (d : Dtype) → Due k s at entry table byte names n e d → Filled e entry up m byte d table names table' names' r

-- a type string has no names: whatever brackets may open and whatever the names are
abbrev pub DuePlainAt : (s : List ℕ) (at entry : ℕ) (table : List ℕ) (byte : ℕ) → Type 0
DuePlainAt s at entry table byte = (k : ℕ) × (names : List ℕ) × DueAt k s at entry table byte names

abbrev pub FillsPlain : (s : List ℕ) (at entry up m byte : ℕ) (table table' : List ℕ) → DescrFilled → Type 0
FillsPlain s at entry up m byte table table' r = (k : ℕ) (names : List ℕ) → Fills k s at entry up m byte table names table' names r

abbrev pub DueFieldsFrom : (k : ℕ) (s : List ℕ) (from entry : ℕ) (table : List ℕ) (byte : ℕ) (names : List ℕ) → Type 0
DueFieldsFrom k s from entry table byte names = (ns : List Node) × (e : ℕ) × (fs : Fields) × DueFields k s from entry table byte names ns e fs

abbrev pub FillsFields : (k : ℕ) (s : List ℕ) (from entry up byte : ℕ) (table names table' names' : List ℕ) → FieldsFilled → Type 0
FillsFields k s from entry up byte table names table' names' r =
    (ns : List Node) (e : ℕ) (fs : Fields) → DueFields k s from entry table byte names ns e fs → FilledFields e entry up byte fs table names table' names' r
