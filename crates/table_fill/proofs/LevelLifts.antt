-- The levels around a type whose entries were moved for them: what is written is the table of the arrays of that type.
use Prim.Native.Nat.{ℕ, suc, ◌+◌, ◌-◌, ◌*◌, ◌^◌, ◌<◌, ◌≤◌}
use native.Mathlib.Omega.{arith}
use mathlib.Core.Path.{◌≡◌, refl, ap, ◌∙◌}
use mathlib.Core.List.{List, [], ◌∷◌}
use lib.ListN.{length, take, drop}
use lib.Seq.{sets, length-sets}
use Rattle.dtype.specs.Dtype.{Dtype, size_of}
use Rattle.dtype.specs.Entries.{entries_of}
use Rattle.counts.specs.Number.{capped}
use Rattle.dtype.specs.Record.{entry_width, flat}
use Rattle.dtype.proofs.Flat.{flat_length}
use Rattle.record.specs.Descr.{arrays}
use Rattle.record.proofs.Levels.{arrays_entries}
use Rattle.table_fill.specs.Lifted.{moved_from, lifted}
use Rattle.table_fill.proofs.Stores.{sets_over}
use Rattle.table_fill.proofs.Lifts.{dtype_moved, part_of, lifted_room}
use Rattle.table_fill.specs.Written.{size_over, levelled, above}
use Rattle.table_fill.proofs.Levels.{levels_flat}

-- ---- the levels above a type that was lifted
pub over_none : (ns : List ℕ) (entry up m last size : ℕ) (table : List ℕ) → length ns ≡ 0 → (size ≡ size_over ns size) × (table ≡ above ns entry up m last size table)
over_none [] entry up m last size table h = (refl, refl)
over_none (n ∷ ns) entry up m last size table h = absurd (omega arith)

pub over_some : (ns : List ℕ) (entry up m last size : ℕ) (table : List ℕ) → (length ns ≡ 0 → ⊥) → (count last' : ℕ) (table1 table2 : List ℕ) → count ≡ last - entry → last' ≡ capped (last + length ns)
    → table1 ≡ lifted table entry count (length ns) → table2 ≡ levelled ns entry up m last' size table1 → table2 ≡ above ns entry up m last size table
over_some [] entry up m last size table h count last' table1 table2 hc hl h1 h2 = absurd (h refl)
over_some (n ∷ ns) entry up m last size table h count last' table1 table2 hc hl h1 h2 =
    h2 ∙ ap (levelled (n ∷ ns) entry up m last' size) (h1 ∙ ap (λ (x : ℕ). lifted table entry x (suc (length ns))) hc)
    ∙ ap (λ (x : ℕ). levelled (n ∷ ns) entry up m x size (lifted table entry (last - entry) (suc (length ns)))) hl

pub above_flat : (ns : List ℕ) (d : Dtype) (entry up m last size : ℕ) (old : List ℕ) → size ≡ capped (size_of d) → last ≡ entry + entries_of d → entry_width * (last + length ns) ≤ length old → length old < 2 ^ 64
    → above ns entry up m last size (sets old (entry_width * entry) (flat d entry up m [])) ≡ sets old (entry_width * entry) (flat (arrays ns d) entry up m [])
above_flat [] d entry up m last size old hs hl room big = refl
above_flat (n ∷ ns) d entry up m last size old hs hl room big =
    let by = suc (length ns) in
    let rows = flat d entry up m [] in
    let whole = flat (arrays (n ∷ ns) d) entry up m [] in
    let now = sets old (entry_width * entry) rows in
    let few = flat_length d entry up m [] in
    let all = flat_length (arrays (n ∷ ns) d) entry up m [] in
    let count = arrays_entries (n ∷ ns) d in
    let long = length-sets old (entry_width * entry) rows in
    let part : take (entry_width * (last - entry)) (drop (entry_width * entry) now) ≡ rows = part_of old (entry_width * entry) (entry_width * (last - entry)) rows (omega (arith, few)) (omega (arith, few)) in
    let one : entry + by - 1 ≡ entry + length ns = omega arith in
    let last_is : capped (last + by) ≡ last + by = omega arith in
    let up_there : lifted now entry (last - entry) by ≡ sets now (entry_width * (entry + by)) (flat d (entry + by) (entry + length ns) 0 []) =
    lifted_room now entry (last - entry) by (omega (arith, long))
    ∙ ap (λ (y : List ℕ). sets now (entry_width * (entry + by)) (moved_from 0 by (entry + by - 1) y)) part
    ∙ ap (λ (y : ℕ). sets now (entry_width * (entry + by)) (moved_from 0 by y rows)) one
    ∙ ap (sets now (entry_width * (entry + by))) (dtype_moved by (entry + length ns) d entry (entry + by) up m refl (omega arith)) in
    ap (λ (y : ℕ). levelled (n ∷ ns) entry up m y size (lifted now entry (last - entry) by)) last_is
    ∙ ap (levelled (n ∷ ns) entry up m (last + by) size) up_there
    ∙ levels_flat (n ∷ ns) d entry up m (last + by) size now hs (omega (arith, count)) (omega (arith, long))
    ∙ sets_over old (entry_width * entry) rows whole (omega (arith, few, all, count))
