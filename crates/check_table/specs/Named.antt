-- The tests of a whole table, each a part of 27, besides the agreement of its entries: the outermost entry and the names. Kind 1 is an array.
use Rattle.std.specs.Prelude.{ℕ, ◌≡◌, Bool, false, List, length}
use Rattle.utf8.specs.Decode.{utf8}
use Rattle.dtype.specs.declared.Entry.{Entry}
use Rattle.dtype.specs.Agrees.{name_start}
use Rattle.dtype.specs.Seen.{some_from, name_at}
use Rattle.check_table.specs.Decides.{refuses}

-- whether the name of entry e is not UTF-8
abbrev pub ill_name_at : (t ns : List ℕ) → ℕ → Bool
ill_name_at t ns e = refuses (utf8 (name_at t ns e))

-- the names of n entries, end to end, are ns, and each is UTF-8
pub record NamesPass (t ns : List ℕ) (n : ℕ) : Type 0 where
  pub long : name_start t n ≡ length ns
  pub all_well : some_from (ill_name_at t ns) n 0 ≡ false

-- the outermost of n entries: it extends to the table's end, is no array, and has neither parent nor name
pub record Outermost (e : Entry) (n : ℕ) : Type 0 where
  pub no_array : e.kind ≡ 1 → ⊥
  pub reaches : e.extent ≡ n
  pub no_parent : e.parent ≡ 0
  pub no_name : e.name ≡ 0
