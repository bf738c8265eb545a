-- An accepted record and its rooms: where 13 is not given no field has over 32 array levels, the totals are the record's own, 23 is what the code tests, and
-- rooms that are filled from their front hold the record.
use Rattle.std.specs.Prelude.{Err, Ok}
use Prim.Native.Nat.{ℕ, ◌*◌, ◌/◌, ◌≤◌}
use native.Mathlib.Omega.{arith}
use mathlib.Core.Path.{◌≡◌, refl, sym, ap, ◌∙◌}
use mathlib.Core.List.{List}
use mathlib.Core.Bool.{Bool, true, false, ◌||◌}
use lib.Dec.{ltb}
use lib.ListN.{length}
use borrow.Author.Tests.{ltb-false}
use lib.Seq.{sets}
use Rattle.counts.specs.Outcome.{gives, unless}
use Rattle.counts.proofs.Alike.{or_none}
use Rattle.counts.proofs.Holds.{unless_back}
use Rattle.counts.specs.Lists.{at_front}
use Rattle.refusal.specs.declared.Refusal.{Refusal}
use Rattle.dtype.specs.declared.Order.{Order}
use Rattle.dtype.specs.Entries.{entries_of, levels, some_entry_in}
use Rattle.dtype.specs.Record.{name_bytes_of, entry_width, Record, names, table}
use Rattle.dtype.specs.Limits.{over_dimensions, over_levels, over_entries, over_size, over_shape, limited}
use Rattle.dtype.specs.Dtype.{Dtype, Fields, plain, array, record_of, end_of_fields, field_then}
use Rattle.dtype.proofs.Seen.{table_length, all_names_length}
use Rattle.record.specs.Rooms.{rooms, needs, too_small, Lent, rooms_of, holding}
use Rattle.literal_bytes.specs.Text.{skip}
use Rattle.literal.specs.Literal.{value}
use Rattle.shape_verdict.specs.Outline.{outline_of}
use Rattle.shape_verdict.specs.declared.Outline.{Outline}
use Rattle.shape_text.specs.Answer.{dimensions_at}
use Rattle.shape_text.specs.declared.DimsStored.{DimsStored}
use Rattle.shape_text.proofs.Stored.{stored_over, FillsShape}
use Rattle.descr_totals.specs.declared.Totals.{Totals}
use Rattle.descr_totals.proofs.Limits.{entries_are, names_are}
use Rattle.judge.specs.declared.FoundRecord.{FoundRecord}
use Rattle.judge.specs.Judged.{inside, PlanOf}
use Rattle.header.specs.Filled.{DueAt, Fills, Narrow, NarrowIn}
use Rattle.header.specs.declared.fill.DescrFilled.{DescrFilled}
use Rattle.header.specs.declared.RecordInfo.{RecordInfo}
use Rattle.header.specs.Reads.{lent, info_of, Stores}

-- ---- 13
mutual
  narrow_of : (d : Dtype) → over_levels d ≡ false → Narrow d
  narrow_of (plain t) h = tt
  narrow_of (array n d) h =
      let x = or_none (ltb 32 (levels (array n d))) (over_levels d) h in
      (ltb-false 32 (levels (array n d)) x.0, narrow_of d x.1)
  narrow_of (record_of fs) h = narrow_in fs h

  narrow_in : (fs : Fields) → some_entry_in (λ e. ltb 32 (levels e)) fs ≡ false → NarrowIn fs
  narrow_in end_of_fields h = tt
  narrow_in (field_then name d fs) h =
      let x = or_none (over_levels d) (some_entry_in (λ e. ltb 32 (levels e)) fs) h in
      (narrow_of d x.0, narrow_in fs x.1)

-- ---- the buffers
table_held : (d : Dtype) (l : List ℕ) → entry_width * entries_of d ≤ length l → sets l 0 (table d) ≡ at_front (table d) l
table_held d l le = stored_over (table d) l (omega (arith, table_length d))

names_held : (d : Dtype) (l : List ℕ) → name_bytes_of d ≤ length l → sets l 0 (names d) ≡ at_front (names d) l
names_held d l le = stored_over (names d) l (omega (arith, all_names_length d))

-- ---- what was not refused
module _ (r : Record) (within : limited r ≡ gives r) where
  not_13 : ((over_dimensions r.shape || over_levels r.dtype) ≡ false) × (unless (over_entries r.dtype) 20 (unless (over_size r.dtype) 21 (unless (over_shape r.order r.shape) 22 (gives r))) ≡ gives r)
  unfolding limited
  not_13 = unless_back (over_dimensions r.shape || over_levels r.dtype) 13 _ r within

  not_20 : over_entries r.dtype ≡ false
  not_20 = (unless_back (over_entries r.dtype) 20 _ r not_13.1).0

  levels_few : over_levels r.dtype ≡ false
  levels_few = (or_none (over_dimensions r.shape) (over_levels r.dtype) not_13.0).1

  entries_few : entries_of r.dtype ≤ 512
  entries_few = ltb-false 512 (entries_of r.dtype) (or_none (ltb 512 (entries_of r.dtype)) (ltb 65536 (name_bytes_of r.dtype)) not_20).0

  names_few : name_bytes_of r.dtype ≤ 65536
  names_few = ltb-false 65536 (name_bytes_of r.dtype) (or_none (ltb 512 (entries_of r.dtype)) (ltb 65536 (name_bytes_of r.dtype)) not_20).1

rank_of_lem : (s : List ℕ) → (outline_of s).rank ≡ length s
unfolding outline_of
rank_of_lem s = refl

module _ (text : List ℕ) (plan : FoundRecord) (r : Record) (h : PlanOf text (skip text 0) plan r) where
  -- ---- the numbers of the plan
  entries_is : plan.descr.totals.entries ≡ entries_of r.dtype
  entries_is = ap (λ (t : Totals). t.entries) h.typed.totalled ∙ entries_are r.dtype (entries_few r h.within)

  names_is : plan.descr.totals.names ≡ name_bytes_of r.dtype
  names_is = ap (λ (t : Totals). t.names) h.typed.totalled ∙ names_are r.dtype (names_few r h.within)

  rank_is : plan.shape.outline.rank ≡ length r.shape
  rank_is = ap (λ (o : Outline). o.rank) h.shaped.outlined ∙ rank_of_lem r.shape

  info_eq : {o o' : Order} {a a' b b' c c' : ℕ} → o ≡ o' → a ≡ a' → b ≡ b' → c ≡ c' → ◌≡◌ {A = RecordInfo} (record { order = o; rank = a; entries = b; names = c }) (record { order = o'; rank = a'; entries = b'; names = c' })
  info_eq ho ha hb hc = cc

  info_is : ◌≡◌ {A = RecordInfo} (record { order = plan.order; rank = plan.shape.outline.rank; entries = plan.descr.totals.entries; names = plan.descr.totals.names }) (info_of r)
  info_is = info_eq h.ordered rank_is entries_is names_is

  module _ (t ns s : List ℕ) where
    abbrev l : Lent
    l = lent t ns s

    -- ---- 23
    abbrev small : Bool
    small = too_small (rooms_of l) (rooms plan.descr.totals.entries plan.descr.totals.names plan.shape.outline.rank)

    rooms_eq : {a a' b b' c c' : ℕ} → a ≡ a' → b ≡ b' → c ≡ c' → rooms a b c ≡ rooms a' b' c'
    rooms_eq ha hb hc = cc

    small_is : small ≡ too_small (rooms_of l) (needs r)
    small_is = ap (too_small (rooms_of l)) (rooms_eq entries_is names_is rank_is)

    pub store_23 : small ≡ true → Stores r l (Err Refusal.Room) l
    store_23 e =
        let z : too_small (rooms_of l) (needs r) ≡ true = sym small_is ∙ e in
        record { answered = rw z refl; after = rw z refl }

    module _ (e : small ≡ false) where
      roomy : too_small (rooms_of l) (needs r) ≡ false
      roomy = sym small_is ∙ e

      first_two : (ltb (length t / entry_width) (entries_of r.dtype) || ltb (length ns) (name_bytes_of r.dtype)) ≡ false
      first_two = (or_none (ltb (length t / entry_width) (entries_of r.dtype) || ltb (length ns) (name_bytes_of r.dtype)) (ltb (length s) (length r.shape)) roomy).0

      table_fits : entry_width * entries_of r.dtype ≤ length t
      table_fits =
          let x = ltb-false (length t / entry_width) (entries_of r.dtype) (or_none (ltb (length t / entry_width) (entries_of r.dtype)) (ltb (length ns) (name_bytes_of r.dtype)) first_two).0 in
          omega (arith, x)

      names_fit : name_bytes_of r.dtype ≤ length ns
      names_fit = ltb-false (length ns) (name_bytes_of r.dtype) (or_none (ltb (length t / entry_width) (entries_of r.dtype)) (ltb (length ns) (name_bytes_of r.dtype)) first_two).1

      shape_fits : length r.shape ≤ length s
      shape_fits = ltb-false (length s) (length r.shape) (or_none (ltb (length t / entry_width) (entries_of r.dtype) || ltb (length ns) (name_bytes_of r.dtype)) (ltb (length s) (length r.shape)) roomy).1

      -- ---- what the filling walks ask
      pub fill_due : DueAt inside text plan.descr.at 0 t 0 ns
      fill_due = (
        h.typed.counts.node,
        h.typed.counts.end,
        r.dtype,
        record {
          there = h.typed.counts.there;
          is = h.typed.is;
          narrow = narrow_of r.dtype (levels_few r h.within);
          room = omega (arith, table_fits);
          name_room = omega (arith, names_fit);
        },
      )

      shape_there : dimensions_at (value inside text plan.shape.at) ≡ gives r.shape
      shape_there = ap dimensions_at h.shaped.counts.there ∙ h.shaped.is

      -- ---- what the rooms then hold
      lent_eq : {t t' n n' s s' : List ℕ} → t ≡ t' → n ≡ n' → s ≡ s' → lent t n s ≡ lent t' n' s'
      lent_eq a b c = cc

      pub store_fits :
          (spot : DescrFilled) (count : DimsStored) (t' n' s' : List ℕ) → Fills inside text plan.descr.at 0 0 0 0 t ns t' n' spot → FillsShape (value inside text plan.shape.at) s count s'
          → Stores r l (Ok (record { order = plan.order; rank = plan.shape.outline.rank; entries = plan.descr.totals.entries; names = plan.descr.totals.names })) (lent t' n' s')
      unfolding fill_due
      store_fits spot count t' n' s' f g =
          let a = f fill_due.0 fill_due.1 fill_due.2 fill_due.3 in
          let b = g r.shape shape_there in
          let held : lent t' n' s' ≡ holding r l = lent_eq (a.table_after ∙ table_held r.dtype t table_fits) (a.names_after ∙ names_held r.dtype ns names_fit) (b.out_after ∙ stored_over r.shape s shape_fits) in
          record { answered = rw roomy (ap gives info_is); after = rw roomy held }
