-- Document 01, "What counts as an answer": "The cases marked P form one proved table under a single claim". They are the lines marked P of "Both sides of each edge (P:
-- proved)": those about type strings, and those about sizes, strides, shapes and places. The two lines about whole headers, with document 02's corrections, are proved with them.
use Rattle.std.specs.Prelude.{ℕ, ◌≤◌, ◌≡◌, false, List, [], ◌∷◌, length}
use Rattle.counts.specs.Outcome.{gives}
use Rattle.literal_grammar.specs.Value.{Value, string, integer, list, tuple, end_of_values, value_then, most_open}
use Rattle.literal_grammar.specs.Promise.{GivesIn}
use Rattle.record.specs.Descr.{descr_of}
use Rattle.dtype.specs.declared.Order.TheVariants.{C}
use Rattle.dtype.specs.Record.{table}
use Rattle.record.specs.Prefix.{one_zero}
use Rattle.record.specs.Edges.{three_i4, three_i4_header, eighty, hundred_twenty_eight, PaddingEdges}
use Rattle.claims.specs.Exact.{InFile, Writable}
use Rattle.type_read.specs.Edges as types
use Rattle.dtype.specs.Edges as dtypes

-- the bytes of `[('a', '<i2'), ('b', '<U3', (2,))]`: its first field, what is between the fields, its second field
abbrev pub a_and_b_text : List ℕ
a_and_b_text =
    91 ∷
    40 ∷ 39 ∷ 97 ∷ 39 ∷ 44 ∷ 32 ∷ 39 ∷ 60 ∷ 105 ∷ 50 ∷ 39 ∷ 41 ∷
    44 ∷ 32 ∷
    40 ∷ 39 ∷ 98 ∷ 39 ∷ 44 ∷ 32 ∷ 39 ∷ 60 ∷ 85 ∷ 51 ∷ 39 ∷ 44 ∷ 32 ∷ 40 ∷ 50 ∷ 44 ∷ 41 ∷ 41 ∷
    93 ∷ []

-- the value of `('a', '<i2')`: `a` is 97, `<` 60, `i` 105, `2` 50
abbrev pub field_a : Value
field_a = tuple (value_then (string (97 ∷ [])) (value_then (string (60 ∷ 105 ∷ 50 ∷ [])) end_of_values))

-- the value of `('b', '<U3', (2,))`: `b` is 98, `U` 85, `3` 51
abbrev pub field_b : Value
field_b = tuple (value_then (string (98 ∷ [])) (value_then (string (60 ∷ 85 ∷ 51 ∷ [])) (value_then (tuple (value_then (integer false 2) end_of_values)) end_of_values)))

-- both, in a list
abbrev pub a_and_b_value : Value
a_and_b_value = list (value_then field_a (value_then field_b end_of_values))

-- the claim
pub record Edges : Type 0 where
  -- `|i1`, `<i08`, `>U0`; `|O4`: 15, `>i` and 30 nines: 16, `|i9`: 17, `>i9`: 18, `>m8`: 19
  pub type_strings : types.TypeEdges
  -- (2,3), rank 0, (0, 2^40, 2^40), 2^32 by 2^32, and the record of 26 bytes
  pub records : dtypes.TableEdges
  -- `[('a', '<i2'), ('b', '<U3', (2,))]` gives this value by the grammar, and the value as a `descr` gives that record of 26 bytes
  pub a_and_b_given : GivesIn most_open a_and_b_text a_and_b_value
  pub a_and_b_read : descr_of a_and_b_value ≡ gives dtypes.a_and_b
  -- document 01's 80 bytes are a header of `<i4`, C, (3), with the data at 80; so some file is read
  pub eighty_read : InFile eighty (record { version = one_zero; says = three_i4; data_start = 80 })
  -- headers of it too: the same text with a tab, CR, a space and LF for its padding, the text without padding, and the 128 bytes that are written
  pub other_blanks_read : InFile (three_i4_header 62 (9 ∷ 13 ∷ 32 ∷ 10 ∷ [])) (record { version = one_zero; says = three_i4; data_start = 72 })
  pub unpadded_read : InFile (three_i4_header 58 []) (record { version = one_zero; says = three_i4; data_start = 68 })
  pub hundred_twenty_eight_read : InFile hundred_twenty_eight (record { version = one_zero; says = three_i4; data_start = 128 })
  -- the edges of version and padding
  pub padding_edges : PaddingEdges
  -- the 128 bytes are written to any room of as many or more; so some record is written
  pub three_writable : (room : List ℕ) → 128 ≤ length room → Writable (table three_i4.dtype) [] (3 ∷ []) C room three_i4
