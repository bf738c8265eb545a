-- Document 01, "The refusal numbers": 27, "caller's record or type that no reading gives (13, 20 to 22, 7, 4 aside), or outermost an array". The dtype that a table
-- and its names list is `table_of` (dtype/specs/Record.antt).
use Rattle.std.specs.Prelude.{ℕ, ◌≡◌, Bool, true, false, ◌||◌, not, List}
use Rattle.counts.specs.Outcome.{Outcome, gives, then, unless}
use Rattle.type_str.specs.Text.{is_type}
use Rattle.utf8.specs.Utf8.{WellFormed}
use Rattle.utf8.specs.Decode.{utf8}
use Rattle.dtype.specs.Dtype.{Dtype, Fields, plain, array, record_of, end_of_fields, field_then}
use Rattle.dtype.specs.Entries.{some_entry, plain_only}
use Rattle.dtype.specs.Record.{some_name, table_of}
use Rattle.check_table.specs.Decides.{refuses}

-- whether no type string has some plain type in it
abbrev pub untyped : Dtype → Bool
untyped d = some_entry (plain_only (λ t. not (is_type t))) d

-- whether some name, by itself, is not UTF-8
abbrev pub ill_named : Dtype → Bool
ill_named d = some_name (λ name. refuses (utf8 name)) d

-- neither: every plain type is a type string's, and every name is UTF-8
abbrev mutual
  pub Readable : Dtype → Type 0
  Readable (plain t) = is_type t ≡ true
  Readable (array n d) = Readable d
  Readable (record_of fs) = AllReadable fs

  pub AllReadable : Fields → Type 0
  AllReadable end_of_fields = Unit {0}
  AllReadable (field_then name d fs) = WellFormed name × Readable d × AllReadable fs

-- "outermost an array"
abbrev pub is_array : Dtype → Bool
is_array (plain t) = false
is_array (array n d) = true
is_array (record_of fs) = false

-- whether no reading gives the dtype, or it is an array
abbrev pub unread : Dtype → Bool
unread d = is_array d || (untyped d || ill_named d)

-- the dtype that a table and its names list, or 27
unfoldable pub read_dtype : (table names : List ℕ) → Outcome Dtype
read_dtype t ns = then (table_of t ns) (λ d. unless (unread d) 27 (gives d))
