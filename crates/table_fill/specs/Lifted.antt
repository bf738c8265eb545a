-- The table after some of its entries have moved to make room in front of them. Document 01, "The record": "The dtype table is listed depth first, left to right, parent
-- first": so the array levels of a sub-shape come before their type. The entries themselves are in crate dtype; an entry's first number is its parent, its last its name.
use Rattle.std.specs.Prelude.{ℕ, suc, ◌+◌, ◌-◌, ◌*◌, ◌/◌, ◌%◌, List, [], ◌∷◌, cond, ltb, eqb, length, take, drop}
use Rattle.std.proofs.lemmas.List.Edits.{sets}
use Rattle.counts.specs.Number.{capped}
use Rattle.dtype.specs.Record.{entry_width}

-- which number of an entry is the length of its name: the last
abbrev pub name_column : ℕ
name_column = entry_width - 1

-- number i of a list of entries after they moved by `by`: the first entry gets the parent `up` and no name, and each other parent moves along
unfoldable pub moved_number : (i n by up : ℕ) → ℕ
moved_number i n by up = cond (eqb i 0) up (cond (eqb i name_column) 0 (cond (eqb (i % entry_width) 0) (capped (n + by)) n))

-- a list of numbers of entries after they moved, from number i on
abbrev pub moved_from : (i by up : ℕ) → List ℕ → List ℕ
moved_from i by up [] = []
moved_from i by up (n ∷ l) = moved_number i n by up ∷ moved_from (suc i) by up l

-- the table with the parents and the name adjusted in `count` entries from `entry` on, which moved there by `by`; the first one's parent is the entry before it
abbrev pub relinked : (table : List ℕ) (entry count by : ℕ) → List ℕ
relinked table entry count by =
    sets table (entry_width * entry) (moved_from 0 by (entry - 1) (take (entry_width * count) (drop (entry_width * entry) table)))

-- the table with `count` entries from `entry` on moved by `by` and adjusted; unchanged where it has no room for that
abbrev pub lifted : (table : List ℕ) (entry count by : ℕ) → List ℕ
lifted table entry count by =
    cond (ltb (length table / entry_width) (entry + by + count)) table
    (sets table (entry_width * (entry + by)) (moved_from 0 by (entry + by - 1) (take (entry_width * count) (drop (entry_width * entry) table))))
