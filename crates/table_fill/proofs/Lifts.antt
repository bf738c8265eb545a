-- Entries that are moved to make room for levels. A dtype's table from another entry on is that table with its parents shifted; the first entry gets the last
-- level as its parent. Then the loops that move and adjust them, both from the last on: what comes before a run of stores can be read as it was.
use Rattle.std.specs.List.{copy_within}
use Prim.Native.Nat.{ℕ, zero, suc, ◌+◌, ◌-◌, ◌*◌, ◌/◌, ◌%◌, ◌^◌, ◌<◌, ◌≤◌}
use native.Mathlib.Omega.{arith}
use mathlib.Core.Path.{◌≡◌, refl, sym, ap, subst, ◌∙◌}
use mathlib.Core.List.{List, [], ◌∷◌, ◌++◌, append_assoc}
use mathlib.Core.Bool.{Bool, cond}
use lib.Dec.{eqb}
use lib.ListN.{length, get_or, set, take, drop, length-set, length-drop}
use lib.Seq.{sets, sets-eq, length-take-le, take_at, drop_at, get_or-take, get_or-drop, drop-cons, drop-length, set-get_or}
use borrow.Author.Tests.{lt-ltb, le-ltb, eq-eqb, ne_eqb}
use Rattle.dtype.specs.Dtype.{Dtype, Fields, plain, array, record_of, end_of_fields, field_then}
use Rattle.dtype.specs.Entries.{entries_of, entries_in}
use Rattle.counts.specs.Number.{capped}
use Rattle.dtype.specs.Record.{entry_width, flat, flats}
use Rattle.dtype.specs.EntryOf.{entry_of, entry_numbers}
use Rattle.table_fill.specs.Lifted.{name_column, moved_number, moved_from, relinked, lifted}
use Rattle.table_fill.proofs.Stores.{set_sets, get_d_sets, sets_over}

-- the table with `count` numbers copied from `from` on to `to` on
abbrev moved_on : (table : List ℕ) (from to count : ℕ) → List ℕ
moved_on table from to count = sets table to (take count (drop from table))

-- ---- one number
module _ (i n by up : ℕ) where
  pub moved_first : i ≡ 0 → up ≡ moved_number i n by up
  unfolding moved_number
  moved_first h = ap (λ (t : Bool). cond t up (cond (eqb i name_column) 0 (cond (eqb (i % entry_width) 0) (capped (n + by)) n))) (sym (eq-eqb i 0 h))

  later : (i ≡ 0 → ⊥) → cond (eqb i name_column) 0 (cond (eqb (i % entry_width) 0) (capped (n + by)) n) ≡ moved_number i n by up
  unfolding moved_number
  later z = ap (λ (t : Bool). cond t up (cond (eqb i name_column) 0 (cond (eqb (i % entry_width) 0) (capped (n + by)) n))) (sym (ne_eqb i 0 z))

  pub moved_name : (i ≡ 0 → ⊥) → i ≡ name_column → 0 ≡ moved_number i n by up
  moved_name z h = ap (λ (t : Bool). cond t 0 (cond (eqb (i % entry_width) 0) (capped (n + by)) n)) (sym (eq-eqb i name_column h)) ∙ later z

  later_moved : (i ≡ 0 → ⊥) → (i ≡ name_column → ⊥) → cond (eqb (i % entry_width) 0) (capped (n + by)) n ≡ moved_number i n by up
  later_moved z y = ap (λ (t : Bool). cond t 0 (cond (eqb (i % entry_width) 0) (capped (n + by)) n)) (sym (ne_eqb i name_column y)) ∙ later z

  pub moved_parent : (i ≡ 0 → ⊥) → (i ≡ name_column → ⊥) → i % entry_width ≡ 0 → capped (n + by) ≡ moved_number i n by up
  moved_parent z y h = ap (λ (t : Bool). cond t (capped (n + by)) n) (sym (eq-eqb (i % entry_width) 0 h)) ∙ later_moved z y

  pub moved_other : (i ≡ 0 → ⊥) → (i ≡ name_column → ⊥) → (i % entry_width ≡ 0 → ⊥) → n ≡ moved_number i n by up
  moved_other z y h = ap (λ (t : Bool). cond t (capped (n + by)) n) (sym (ne_eqb (i % entry_width) 0 h)) ∙ later_moved z y

-- ---- one entry
cons_eq : {a b : ℕ} {x y : List ℕ} → a ≡ b → x ≡ y → a ∷ x ≡ b ∷ y
cons_eq p q = cc

-- a number of an entry after the first
keeps : (i k n by up : ℕ) → name_column < i → i % entry_width ≡ 0 → 0 < k → k < entry_width → moved_number (i + k) n by up ≡ n
keeps i k n by up l z lo hi =
    sym (moved_other (i + k) n by up (λ (e : i + k ≡ 0). absurd (omega arith)) (λ (e : i + k ≡ name_column). absurd (omega arith)) (λ (e : (i + k) % entry_width ≡ 0). absurd (omega arith)))

module _ (by up : ℕ) where
  -- the numbers ns of an entry at i, which is not the first: those from number k on, and so not its parent
  row_moved : (ns : List ℕ) (i j k : ℕ) (x : List ℕ) → name_column < i → i % entry_width ≡ 0 → j ≡ i + k → 0 < k → k + length ns ≤ entry_width
      → moved_from j by up (ns ++ x) ≡ ns ++ moved_from (j + length ns) by up x
  row_moved [] i j k x l z h lo hi = let e : j ≡ j + 0 = omega arith in ap (λ (y : ℕ). moved_from y by up x) e
  row_moved (n ∷ ns) i j k x l z h lo hi =
      let e : suc j + length ns ≡ j + suc (length ns) = omega arith in
      cons_eq (ap (λ (y : ℕ). moved_number y n by up) h ∙ keeps i k n by up l z lo (omega arith))
      (row_moved ns i (suc j) (suc k) x l z (omega arith) (omega arith) (omega arith) ∙ ap (λ (y : ℕ). ns ++ moved_from y by up x) e)

  entry_moved : (d : Dtype) (p p' m i i' : ℕ) (x x' : List ℕ) → p' ≡ p + by → p' < 2 ^ 64 → name_column < i → i % entry_width ≡ 0 → i' ≡ i + entry_width → moved_from i' by up x ≡ x'
      → moved_from i by up (entry_numbers (entry_of d p m) x) ≡ entry_numbers (entry_of d p' m) x'
  entry_moved d p p' m i i' x x' hp small l z hi hx =
      let others = drop 1 (entry_numbers (entry_of d p m) []) in
      let long : length others ≡ name_column = refl in
      let first : capped (p + by) ≡ p' = omega arith in
      let rest : suc i + length others ≡ i' = omega arith in
      cons_eq (sym (moved_parent i p by up (λ (q : i ≡ 0). absurd (omega arith)) (λ (q : i ≡ name_column). absurd (omega arith)) z) ∙ first)
      (row_moved others i (suc i) 1 x l z (omega arith) (omega arith) (omega arith) ∙ ap (λ (y : List ℕ). others ++ y) (ap (λ (y : ℕ). moved_from y by up x) rest ∙ hx))

  -- ---- a dtype after the first entry
  mutual
    flat_moved : (d : Dtype) (at at' p p' m i i' : ℕ) (x : List ℕ) → at' ≡ at + by → p' ≡ p + by → at' + entries_of d < 2 ^ 64 → p' < 2 ^ 64 → name_column < i → i % entry_width ≡ 0 → i' ≡ i + entry_width * entries_of d
        → moved_from i by up (flat d at p m x) ≡ flat d at' p' m (moved_from i' by up x)
    flat_moved (plain t) at at' p p' m i i' x ha hp big small l z hi = entry_moved (plain t) p p' m i i' x _ hp small l z (omega arith) refl
    flat_moved (array n d) at at' p p' m i i' x ha hp big small l z hi =
        entry_moved (array n d) p p' m i (i + entry_width) (flat d (suc at) at 0 x) _ hp small l z refl
        (flat_moved d (suc at) (suc at') at at' 0 (i + entry_width) i' x (omega arith) ha (omega arith) (omega arith) (omega arith) (omega arith) (omega arith))
    flat_moved (record_of fs) at at' p p' m i i' x ha hp big small l z hi =
        entry_moved (record_of fs) p p' m i (i + entry_width) (flats fs (suc at) at x) _ hp small l z refl
        (flats_moved fs (suc at) (suc at') at at' (i + entry_width) i' x (omega arith) ha (omega arith) (omega arith) (omega arith) (omega arith) (omega arith))

    flats_moved : (fs : Fields) (at at' p p' i i' : ℕ) (x : List ℕ) → at' ≡ at + by → p' ≡ p + by → at' + entries_in fs < 2 ^ 64 → p' < 2 ^ 64 → name_column < i → i % entry_width ≡ 0 → i' ≡ i + entry_width * entries_in fs
        → moved_from i by up (flats fs at p x) ≡ flats fs at' p' (moved_from i' by up x)
    flats_moved end_of_fields at at' p p' i i' x ha hp big small l z hi = let e : i ≡ i' = omega arith in ap (λ (y : ℕ). moved_from y by up x) e
    flats_moved (field_then name d fs) at at' p p' i i' x ha hp big small l z hi =
        flat_moved d at at' p p' (length name) i (i + entry_width * entries_of d) (flats fs (at + entries_of d) p x) ha hp (omega arith) small l z refl
        ∙ ap (flat d at' p' (length name))
        (flats_moved fs (at + entries_of d) (at' + entries_of d) p p' (i + entry_width * entries_of d) i' x (omega arith) hp (omega arith) small (omega arith) (omega arith) (omega arith))

  -- ---- a whole dtype
  root_moved : (d : Dtype) (p m : ℕ) (x : List ℕ) → moved_from 0 by up (entry_numbers (entry_of d p m) x) ≡ entry_numbers (entry_of d up 0) (moved_from entry_width by up x)
  unfolding moved_number
  root_moved d p m x = refl

  pub dtype_moved : (d : Dtype) (at at' p m : ℕ) → at' ≡ at + by → at' + entries_of d < 2 ^ 64 → moved_from 0 by up (flat d at p m []) ≡ flat d at' up 0 []
  dtype_moved (plain t) at at' p m ha big = root_moved (plain t) p m []
  dtype_moved (array n d) at at' p m ha big =
      root_moved (array n d) p m (flat d (suc at) at 0 [])
      ∙ ap (entry_numbers (entry_of (array n d) up 0)) (flat_moved d (suc at) (suc at') at at' 0 entry_width (entry_width + entry_width * entries_of d) [] (omega arith) ha (omega arith) (omega arith) (omega arith) (omega arith) refl)
  dtype_moved (record_of fs) at at' p m ha big =
      root_moved (record_of fs) p m (flats fs (suc at) at [])
      ∙ ap (entry_numbers (entry_of (record_of fs) up 0)) (flats_moved fs (suc at) (suc at') at at' entry_width (entry_width + entry_width * entries_in fs) [] (omega arith) ha (omega arith) (omega arith) (omega arith) (omega arith) refl)

-- ---- the loop
moved_length : (l : List ℕ) (i by up : ℕ) → length (moved_from i by up l) ≡ length l
moved_length [] i by up = refl
moved_length (n ∷ l) i by up = ap suc (moved_length l (suc i) by up)

moved_get : (l : List ℕ) (i by up j : ℕ) → j < length l → get_or (moved_from i by up l) j 0 ≡ moved_number (i + j) (get_or l j 0) by up
moved_get [] i by up j lt = absurd (omega arith)
moved_get (n ∷ l) i by up zero lt = let z : i ≡ i + 0 = omega arith in ap (λ (x : ℕ). moved_number x n by up) z
moved_get (n ∷ l) i by up (suc j) lt =
    let z : suc i + j ≡ i + suc j = omega arith in
    moved_get l (suc i) by up j (omega arith) ∙ ap (λ (x : ℕ). moved_number x (get_or l j 0) by up) z

part_length : (l : List ℕ) (k n : ℕ) → k + n ≤ length l → length (take n (drop k l)) ≡ n
part_length l k n le = length-take-le n (drop k l) (let m = length-drop k l in omega (arith, m))

-- what a run stored
pub part_of : (l : List ℕ) (k n : ℕ) (xs : List ℕ) → k + length xs ≤ length l → n ≡ length xs → take n (drop k (sets l k xs)) ≡ xs
part_of l k n xs le hn =
    ap (λ (y : List ℕ). take n (drop k y)) (sets-eq xs l k le ∙ append_assoc (take k l) xs (drop (k + length xs) l))
    ∙ ap (take n) (drop_at (take k l) (xs ++ drop (k + length xs) l) k (length-take-le k l (omega arith)))
    ∙ take_at xs (drop (k + length xs) l) n (sym hn)

-- ---- a run of stores, the last first
module _ (table0 due : List ℕ) (to : ℕ) where
  pub record Storing (i : ℕ) (table : List ℕ) : Type 0 where
    pub low : i ≤ length due
    pub long : length table ≡ length table0
    pub holds : table ≡ sets table0 (to + i) (drop i due)

  storing_start : (n : ℕ) → length due ≡ n → Storing n table0
  storing_start n hn =
      let none : drop n due ≡ [] = ap (λ (k : ℕ). drop k due) (sym hn) ∙ drop-length due in
      record { low = omega arith; long = refl; holds = ap (sets table0 (to + n)) (sym none) }

  module _ (i j : ℕ) (hi : i ≡ suc j) (table : List ℕ) (w : Storing i table) where
    as_before : table ≡ sets table0 (suc (to + j)) (drop (suc j) due)
    as_before =
        let more : to + i ≡ suc (to + j) = omega arith in
        w.holds ∙ ap (λ (x : ℕ). sets table0 x (drop i due)) more ∙ ap (λ (x : ℕ). sets table0 (suc (to + j)) (drop x due)) hi

    -- up to the next store, everything is as it was
    as_it_was : (k : ℕ) → k ≤ to + j → get_or table k 0 ≡ get_or table0 k 0
    as_it_was k le = ap (λ (l : List ℕ). get_or l k 0) as_before ∙ get_d_sets table0 (suc (to + j)) k (drop (suc j) due) (omega arith)

    storing_more : (n : ℕ) → n ≡ get_or due j 0 → (table' : List ℕ) → table' ≡ set table (to + j) n → Storing j table'
    storing_more n hn table' ht =
        record {
          low = omega (arith, w.low);
          long = ap length ht ∙ length-set table (to + j) n ∙ w.long;
          holds = ht ∙ ap (λ (l : List ℕ). set l (to + j) n) as_before ∙ set_sets table0 (to + j) n (suc (to + j)) (drop (suc j) due) (omega arith)
              ∙ ap (λ (x : ℕ). sets table0 (to + j) (x ∷ drop (suc j) due)) hn ∙ ap (sets table0 (to + j)) (sym (drop-cons due j 0 (omega (arith, w.low))));
        }

    -- a store that would change nothing is left out
    storing_skip : get_or due j 0 ≡ get_or table0 (to + j) 0 → Storing j table
    storing_skip h = storing_more (get_or due j 0) refl table (sym (ap (set table (to + j)) (h ∙ sym (as_it_was (to + j) (omega arith))) ∙ set-get_or table (to + j) 0))

  storing_all : (i : ℕ) (table : List ℕ) → Storing i table → i ≡ 0 → table ≡ sets table0 to due
  storing_all i table w hi =
      let z : to + 0 ≡ to = omega arith in
      w.holds ∙ ap (λ (x : ℕ). sets table0 (to + x) (drop x due)) hi ∙ ap (λ (x : ℕ). sets table0 x due) z

-- ---- numbers that are moved
pub copied : (l : List ℕ) (from end to count : ℕ) → end ≡ from + count → end ≤ length l → to + count ≤ length l → copy_within l from end to ≡ moved_on l from to count
copied l from end to count he hf ht =
    let row = take count (drop from l) in
    let n : end - from ≡ count = omega arith in
    let long : length row ≡ count = part_length l from count (omega arith) in
    rw n (sym (sets-eq row l to (omega (arith, long)) ∙ ap (λ (k : ℕ). take to l ++ row ++ drop (to + k) l) long))

-- ---- entries that are adjusted
module _ (table0 : List ℕ) (entry count by : ℕ) where
  abbrev there : List ℕ
  there = take (entry_width * count) (drop (entry_width * entry) table0)

  abbrev relinked_row : List ℕ
  relinked_row = moved_from 0 by (entry - 1) there

  abbrev pub Relinking : ℕ → List ℕ → Type 0
  Relinking i table = Storing table0 relinked_row (entry_width * entry) i table

  pub relinking_all : (i : ℕ) (table : List ℕ) → Relinking i table → i ≡ 0 → table ≡ relinked table0 entry count by
  relinking_all i table w hi = storing_all table0 relinked_row (entry_width * entry) i table w hi

  module _ (room : entry_width * (entry + count) ≤ length table0) where
    there_length : length there ≡ entry_width * count
    there_length = part_length table0 (entry_width * entry) (entry_width * count) (omega arith)

    relinked_long : length relinked_row ≡ entry_width * count
    relinked_long = moved_length there 0 by (entry - 1) ∙ there_length

    relinked_get : (j : ℕ) → j < entry_width * count → get_or relinked_row j 0 ≡ moved_number j (get_or table0 (entry_width * entry + j) 0) by (entry - 1)
    relinked_get j lt =
        let z : 0 + j ≡ j = omega arith in
        moved_get there 0 by (entry - 1) j (omega (arith, there_length)) ∙ ap (λ (x : ℕ). moved_number x (get_or there j 0) by (entry - 1)) z
        ∙ ap (λ (x : ℕ). moved_number j x by (entry - 1)) (get_or-take (entry_width * count) (drop (entry_width * entry) table0) j 0 lt ∙ get_or-drop (entry_width * entry) table0 j 0)

    pub relinking_start : (k : ℕ) → k ≡ count → Relinking (entry_width * k) table0
    relinking_start k hk = storing_start table0 relinked_row (entry_width * entry) (entry_width * k) (relinked_long ∙ ap (λ (x : ℕ). entry_width * x) (sym hk))

    pub relinking_low : (k : ℕ) (table : List ℕ) → Relinking (entry_width * k) table → k ≤ count
    relinking_low k table w = omega (arith, w.low, relinked_long)

    -- m numbers that are neither a parent nor the first name stay
    relinking_skip : (m j : ℕ) (table : List ℕ) → ((k : ℕ) → j ≤ k → k < j + m → (k ≡ name_column → ⊥) × (k % entry_width ≡ 0 → ⊥)) → Relinking (j + m) table → Relinking j table
    relinking_skip zero j table stay w = let z : j + 0 ≡ j = omega arith in subst (λ (x : ℕ). Relinking x table) z w
    relinking_skip (suc m) j table stay w =
        let s = stay (j + m) (omega arith) (omega arith) in
        let same : get_or relinked_row (j + m) 0 ≡ get_or table0 (entry_width * entry + (j + m)) 0 =
        relinked_get (j + m) (omega (arith, w.low, relinked_long))
        ∙ sym (moved_other (j + m) (get_or table0 (entry_width * entry + (j + m)) 0) by (entry - 1) (λ (e : j + m ≡ 0). s.1 (ap (λ (x : ℕ). x % entry_width) e)) s.0 s.1) in
        relinking_skip m j table (λ k lo hi. stay k lo (omega arith)) (storing_skip table0 relinked_row (entry_width * entry) (j + suc m) (j + m) (omega arith) table w same)

    -- an entry after the first: its parent
    pub relinking_more : (k j : ℕ) → k ≡ suc j → 0 < j → (table : List ℕ) → Relinking (entry_width * k) table → (at n : ℕ) → at ≡ entry_width * (entry + j) → n ≡ capped (get_or table at 0 + by)
        → (table' : List ℕ) → table' ≡ set table at n → Relinking (entry_width * j) table'
    relinking_more k j hk pos table w at n hat hn table' ht =
        let to = entry_width * entry in
        let i = entry_width * j in
        let place : at ≡ to + i = omega arith in
        let whole : entry_width * k ≡ i + 1 + name_column = omega arith in
        let more : i + 1 ≡ suc i = omega arith in
        let s : Relinking (i + 1) table =
        relinking_skip name_column (i + 1) table (λ k lo hi. (λ (e : k ≡ name_column). absurd (omega arith), λ (e : k % entry_width ≡ 0). absurd (omega arith))) (subst (λ (x : ℕ). Relinking x table) whole w) in
        let read : get_or table at 0 ≡ get_or table0 (to + i) 0 = ap (λ (x : ℕ). get_or table x 0) place ∙ as_it_was table0 relinked_row to (i + 1) i more table s (to + i) (omega arith) in
        let is : n ≡ get_or relinked_row i 0 =
        hn ∙ ap (λ (x : ℕ). capped (x + by)) read
        ∙ moved_parent i (get_or table0 (to + i) 0) by (entry - 1) (λ (e : i ≡ 0). absurd (omega arith)) (λ (e : i ≡ name_column). absurd (omega arith)) (omega arith)
        ∙ sym (relinked_get i (omega (arith, s.low, relinked_long))) in
        storing_more table0 relinked_row to (i + 1) i more table s n is table' (ht ∙ ap (λ (x : ℕ). set table x n) place)

    -- the first: its name, then its parent
    pub relinking_first : (k : ℕ) → k ≡ 1 → (table : List ℕ) → Relinking (entry_width * k) table → (at up : ℕ) → at ≡ entry_width * entry → up ≡ entry - 1
        → (table1 table2 : List ℕ) → table1 ≡ set table (at + name_column) 0 → table2 ≡ set table1 at up → Relinking 0 table2
    relinking_first k hk table w at up hat hup table1 table2 h1 h2 =
        let to = entry_width * entry in
        let whole : entry_width * k ≡ suc name_column = omega arith in
        let place : at + name_column ≡ to + name_column = omega arith in
        let front : at ≡ to + 0 = omega arith in
        let name : Relinking name_column table1 =
        storing_more table0 relinked_row to (entry_width * k) name_column whole table w 0
        (moved_name name_column (get_or table0 (to + name_column) 0) by (entry - 1) (λ (e : name_column ≡ 0). absurd (omega arith)) refl ∙ sym (relinked_get name_column (omega (arith, w.low, relinked_long))))
        table1 (h1 ∙ ap (λ (x : ℕ). set table x 0) place) in
        let s : Relinking 1 table1 = relinking_skip (name_column - 1) 1 table1 (λ k lo hi. (λ (e : k ≡ name_column). absurd (omega arith), λ (e : k % entry_width ≡ 0). absurd (omega arith))) name in
        storing_more table0 relinked_row to 1 0 refl table1 s up
        (hup ∙ moved_first 0 (get_or table0 (to + 0) 0) by (entry - 1) refl ∙ sym (relinked_get 0 (omega (arith, s.low, relinked_long))))
        table2 (h2 ∙ ap (λ (x : ℕ). set table1 x up) front)

-- ---- both
module _ (table0 : List ℕ) (entry count by : ℕ) where
  abbrev old : List ℕ
  old = take (entry_width * count) (drop (entry_width * entry) table0)

  abbrev due : List ℕ
  due = moved_from 0 by (entry + by - 1) old

  pub lifted_none : length table0 / entry_width < entry + by + count → table0 ≡ lifted table0 entry count by
  lifted_none l = ap (λ (t : Bool). cond t table0 (sets table0 (entry_width * (entry + by)) due)) (sym (lt-ltb (length table0 / entry_width) (entry + by + count) l))

  pub lifted_room : entry + by + count ≤ length table0 / entry_width → lifted table0 entry count by ≡ sets table0 (entry_width * (entry + by)) due
  lifted_room l = ap (λ (t : Bool). cond t table0 (sets table0 (entry_width * (entry + by)) due)) (le-ltb (length table0 / entry_width) (entry + by + count) l)

  -- moved, and then adjusted
  pub lifted_by : entry + by + count ≤ length table0 / entry_width → (table1 table2 : List ℕ) → table1 ≡ moved_on table0 (entry_width * entry) (entry_width * (entry + by)) (entry_width * count)
      → table2 ≡ relinked table1 (entry + by) count by → table2 ≡ lifted table0 entry count by
  lifted_by room table1 table2 h1 h2 =
      let to = entry_width * (entry + by) in
      let up = entry + by - 1 in
      let long : length old ≡ entry_width * count = part_length table0 (entry_width * entry) (entry_width * count) (omega arith) in
      let part : take (entry_width * count) (drop to (sets table0 to old)) ≡ old = part_of table0 to (entry_width * count) old (omega (arith, long)) (sym long) in
      h2 ∙ ap (λ (l : List ℕ). relinked l (entry + by) count by) h1 ∙ ap (λ (l : List ℕ). sets (sets table0 to old) to (moved_from 0 by up l)) part
      ∙ sets_over table0 to old (moved_from 0 by up old) (omega (arith, moved_length old 0 by up)) ∙ sym (lifted_room room)
