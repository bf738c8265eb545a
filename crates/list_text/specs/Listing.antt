-- Document 01, "What the collector buys": "Numbers stand one space apart. .. A rank 0 shape and its strides print their word alone, and the item size under an `O`
-- prints `none`. Each table line gives number, parent, kind (`plain` and type string, `array` and length, `record` and field count), and a field's name
-- quoted as the writer quotes it." Each text comes before whatever follows.
use Rattle.counts.specs.declared.Bytes.{Bytes}
use Rattle.std.specs.Prelude.{ℕ, zero, suc, List, [], ◌∷◌, Bool, true, false, ◌&&◌, not, eqb, None, Some, Option}
use Rattle.counts.specs.Outcome.{Outcome, gives, refused}
use Rattle.decimal.specs.Decimal.{printed}
use Rattle.literal_grammar.specs.Print.{quote, print}
use Rattle.type_str.specs.Text.{type_text}
use Rattle.type_str.specs.declared.TypeStr.{TypeStr}
use Rattle.dtype.specs.declared.Order.{Order}
use Rattle.dtype.specs.declared.Order.TheVariants.{C, Fortran}
use Rattle.dtype.specs.declared.Entry.{Entry}
use Rattle.dtype.specs.Entries.{entries_of}
use Rattle.dtype.specs.Shape.{product, strides}
use Rattle.dtype.specs.Record.{Record, table, names}
use Rattle.dtype.specs.Agrees.{entry_at}
use Rattle.dtype.specs.Seen.{name_at}
use Rattle.record.specs.Prefix.{Version, major}
use Rattle.check_record.specs.Answer.{item_size}
use Rattle.table_entry.specs.EntryType.{type_of}

-- numbers, each after a space
abbrev pub spaced_numbers : List ℕ → List ℕ → List ℕ
spaced_numbers [] x = x
spaced_numbers (n ∷ ns) x = 32 ∷ printed n (spaced_numbers ns x)

-- ---- the lines before the table
-- `version 1.0`
abbrev pub version_line : Version → List ℕ → List ℕ
version_line v x = 118 ∷ 101 ∷ 114 ∷ 115 ∷ 105 ∷ 111 ∷ 110 ∷ 32 ∷ printed (major v) (46 ∷ 48 ∷ 10 ∷ x)

-- `order C`, `order F`
abbrev pub order_line : Order → List ℕ → List ℕ
order_line C x = 111 ∷ 114 ∷ 100 ∷ 101 ∷ 114 ∷ 32 ∷ 67 ∷ 10 ∷ x
order_line Fortran x = 111 ∷ 114 ∷ 100 ∷ 101 ∷ 114 ∷ 32 ∷ 70 ∷ 10 ∷ x

-- `shape 3`
abbrev pub shape_line : List ℕ → List ℕ → List ℕ
shape_line s x = 115 ∷ 104 ∷ 97 ∷ 112 ∷ 101 ∷ spaced_numbers s (10 ∷ x)

-- `strides 1`
abbrev pub strides_line : List ℕ → List ℕ → List ℕ
strides_line s x = 115 ∷ 116 ∷ 114 ∷ 105 ∷ 100 ∷ 101 ∷ 115 ∷ spaced_numbers s (10 ∷ x)

-- `count 3`
abbrev pub count_line : ℕ → List ℕ → List ℕ
count_line n x = 99 ∷ 111 ∷ 117 ∷ 110 ∷ 116 ∷ 32 ∷ printed n (10 ∷ x)

-- `item 4`, `item none`
abbrev pub item_line : Option Bytes → List ℕ → List ℕ
item_line (Some n) x = 105 ∷ 116 ∷ 101 ∷ 109 ∷ 32 ∷ printed n.0 (10 ∷ x)
item_line None x = 105 ∷ 116 ∷ 101 ∷ 109 ∷ 32 ∷ 110 ∷ 111 ∷ 110 ∷ 101 ∷ 10 ∷ x

-- `data 80`
abbrev pub data_line : ℕ → List ℕ → List ℕ
data_line n x = 100 ∷ 97 ∷ 116 ∷ 97 ∷ 32 ∷ printed n (10 ∷ x)

-- ---- the table
-- the outermost entry has no parent
abbrev pub parent_text : (e parent : ℕ) → List ℕ → List ℕ
parent_text zero p x = 45 ∷ x
parent_text (suc e) p x = printed p x

abbrev pub type_text_in : Outcome TypeStr → List ℕ → List ℕ
type_text_in (gives t) x = type_text t x
type_text_in (refused n) x = x

-- "kind (`plain` and type string, `array` and length, `record` and field count)"
abbrev pub kind_text : (kind : ℕ) → Entry → List ℕ → List ℕ
kind_text zero e x = 112 ∷ 108 ∷ 97 ∷ 105 ∷ 110 ∷ 32 ∷ type_text_in (type_of e) x
kind_text (suc zero) e x = 97 ∷ 114 ∷ 114 ∷ 97 ∷ 121 ∷ 32 ∷ printed e.number x
kind_text (suc (suc k)) e x = 114 ∷ 101 ∷ 99 ∷ 111 ∷ 114 ∷ 100 ∷ 32 ∷ printed e.number x

-- a field's parent is a record
abbrev pub is_field : List ℕ → ℕ → Bool
is_field t e = not (eqb e 0) && eqb (entry_at t (entry_at t e).parent).kind 2

abbrev pub name_text : Bool → (name : List ℕ) → List ℕ → List ℕ
name_text true name x = 32 ∷ print (quote name) x
name_text false name x = x

-- "Each table line gives number, parent, kind .., and a field's name"
abbrev pub entry_line : (t : List ℕ) (e : ℕ) (name : List ℕ) → List ℕ → List ℕ
entry_line t e name x =
    printed e (32 ∷ parent_text e (entry_at t e).parent (32 ∷ kind_text (entry_at t e).kind (entry_at t e) (name_text (is_field t e) name (10 ∷ x))))

-- so many lines, from entry e on
abbrev pub entry_lines : (k e : ℕ) (t ns : List ℕ) → List ℕ → List ℕ
entry_lines zero e t ns x = x
entry_lines (suc k) e t ns x = entry_line t e (name_at t ns e) (entry_lines k (suc e) t ns x)

-- ---- the whole listing of a record, its version and its data start
unfoldable pub listing : Version → (start : ℕ) → Record → List ℕ → List ℕ
listing v start r x =
    version_line v (order_line r.order
    (shape_line r.shape (strides_line (strides r.order r.shape)
    (count_line (product r.shape) (item_line (item_size r.dtype)
    (data_line start (entry_lines (entries_of r.dtype) 0 (table r.dtype) (names r.dtype) x)))))))
