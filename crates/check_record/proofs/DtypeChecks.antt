-- The answers of `check_dtype`: what a table shows of its dtype is what the limits say, each in its turn.
use Rattle.counts.specs.declared.Bytes.{Bytes}
use Rattle.std.specs.Prelude.{None, Some, Option}
use Prim.Native.Nat.{ℕ, ◌/◌, ◌<◌, ◌≤◌}
use mathlib.Core.Path.{◌≡◌, refl, ap, sym, ◌∙◌}
use mathlib.Core.Bool.{Bool, true, false, ◌||◌, ◌&&◌, not, cond, or-true}
use mathlib.Core.List.{List, []}
use native.Mathlib.Omega.{arith}
use borrow.Author.Tests.{lt-ltb, le-ltb}
use lib.ListN.{length}
use Rattle.counts.specs.Outcome.{Outcome, gives, refused, then, each, unless}
use Rattle.dtype.specs.Dtype.{Dtype, size_of}
use Rattle.dtype.specs.Entries.{entries_of, has_object}
use Rattle.dtype.specs.Record.{name_bytes_of, entry_width, table, names}
use Rattle.dtype.specs.Limits.{over_dimensions, over_levels, over_entries, some_over, over_size, unless_over}
use Rattle.dtype.specs.Agrees.{entry_at, Agrees}
use Rattle.dtype.specs.Seen.{some_from, object_at, over_at}
use Rattle.dtype.proofs.Seen.{object_seen, levels_seen, over_seen, bytes_exact, table_length, all_names_length}
use Rattle.dtype.proofs.Whole.{lists_whole}
use Rattle.check_table.specs.Reading.{read_dtype}
use Rattle.check_record.specs.Answer.{item_size}
use Rattle.check_record.specs.Limited.{limited_dtype}
use Rattle.check_scan.proofs.Levels.{deep_at}
use Rattle.check_table.proofs.Passes.{read_view}

pub check_27 : (t ns s : List ℕ) → read_dtype t ns ≡ refused 27 → refused 27 ≡ each item_size (limited_dtype t ns s)
unfolding limited_dtype
check_27 t ns s h = simp h

-- the dtype by the three tests
by_limits : (d : Dtype) (s : List ℕ) (a b c : Bool) → (over_dimensions s || over_levels d) ≡ a → over_entries d ≡ b → over_size d ≡ c
    → unless_over d s (gives d) ≡ unless a 13 (unless b 20 (unless c 21 (gives d)))
by_limits d s a b c p q r = rw (p, q, r)

module _ (t ns s : List ℕ) (d : Dtype) (h : read_dtype t ns ≡ gives d) (n : ℕ) (n_is : n ≡ length t / entry_width) where
  view : (t ≡ table d) × (ns ≡ names d)
  view = read_view t ns d h

  pub entries_are : n ≡ entries_of d
  entries_are = omega (arith, ap length view.0, table_length d)

  names_are : length ns ≡ name_bytes_of d
  names_are = ap length view.1 ∙ all_names_length d

  pub agrees_all : (e : ℕ) → e < n → Agrees t n e
  agrees_all = rw (view.0, entries_are) (lists_whole d).agrees

  checked_by_lem : (a b c : Bool) → (over_dimensions s || over_levels d) ≡ a → over_entries d ≡ b → over_size d ≡ c
      → each item_size (limited_dtype t ns s) ≡ each item_size (unless a 13 (unless b 20 (unless c 21 (gives d))))
  unfolding limited_dtype
  checked_by_lem a b c p q r = rw (limited_dtype, h) (ap (λ (x : Outcome Dtype). each item_size x) (by_limits d s a b c p q r))

  -- 13
  pub check_13 : 32 < length s → refused 13 ≡ each item_size (limited_dtype t ns s)
  check_13 l = sym (checked_by_lem true (over_entries d) (over_size d) (simp (lt-ltb 32 (length s) l)) refl refl)

  levels_are : some_from (deep_at t n) n 0 ≡ over_levels d
  levels_are = rw (view.0, entries_are) (levels_seen d)

  pub check_13_levels : true ≡ some_from (deep_at t n) n 0 → refused 13 ≡ each item_size (limited_dtype t ns s)
  check_13_levels e =
      sym (checked_by_lem true (over_entries d) (over_size d) (simp (sym (e ∙ levels_are), or-true)) refl refl)

  module _ (l : length s ≤ 32) (f : false ≡ some_from (deep_at t n) n 0) where
    none_13 : (over_dimensions s || over_levels d) ≡ false
    none_13 = simp (le-ltb 32 (length s) l, sym (f ∙ levels_are))

    -- 20
    pub check_20 : 512 < n → refused 20 ≡ each item_size (limited_dtype t ns s)
    check_20 g =
        let q : over_entries d ≡ true = simp (lt-ltb 512 (entries_of d) (omega (arith, entries_are))) in
        sym (checked_by_lem false true (over_size d) none_13 q refl)

    pub check_20_names : 65536 < length ns → refused 20 ≡ each item_size (limited_dtype t ns s)
    check_20_names g =
        let q : over_entries d ≡ true = simp (lt-ltb 65536 (name_bytes_of d) (omega (arith, names_are)), or-true) in
        sym (checked_by_lem false true (over_size d) none_13 q refl)

    module _ (g : n ≤ 512) (k : length ns ≤ 65536) where
      none_20 : over_entries d ≡ false
      none_20 = simp (le-ltb 512 (entries_of d) (omega (arith, entries_are)), le-ltb 65536 (name_bytes_of d) (omega (arith, names_are)))

      size_is : (not (some_from (object_at t) n 0) && some_from (over_at t) n 0) ≡ over_size d
      size_is =
          let a : some_from (object_at t) n 0 ≡ has_object d = rw (view.0, entries_are) (object_seen d) in
          let b : some_from (over_at t) n 0 ≡ some_over d = rw (view.0, entries_are) (over_seen d) in
          cc

      -- 21
      pub check_21 : true ≡ (not (some_from (object_at t) n 0) && some_from (over_at t) n 0) → refused 21 ≡ each item_size (limited_dtype t ns s)
      check_21 e = sym (checked_by_lem false false true none_13 none_20 (sym (e ∙ size_is)))

      module _ (v : false ≡ (not (some_from (object_at t) n 0) && some_from (over_at t) n 0)) where
        size_by : (b : Bool) → has_object d ≡ b → over_size d ≡ false
            → cond {A = Option Bytes} b None (Some (record { 0 = (entry_at (table d) 0).bytes })) ≡ cond {A = Option Bytes} b None (Some (record { 0 = size_of d }))
        size_by true e q = refl
        size_by false e q =
            let w : some_over d ≡ false = simp e at q in
            ap (λ (x : ℕ). Some (record { 0 = x })) (bytes_exact d (table d) 0 0 0 [] refl w)

        size_item : (r : Option Bytes) → r ≡ cond (some_from (object_at t) n 0) None (Some (record { 0 = (entry_at t 0).bytes })) → r ≡ item_size d
        size_item r e =
            let a : some_from (object_at t) n 0 ≡ has_object d = rw (view.0, entries_are) (object_seen d) in
            e ∙ rw (a, view.0) (size_by (has_object d) refl (sym (v ∙ size_is)))

        -- the item size
        pub check_within : (r : Option Bytes) → r ≡ cond (some_from (object_at t) n 0) None (Some (record { 0 = (entry_at t 0).bytes }))
            → gives r ≡ each item_size (limited_dtype t ns s)
        check_within r q = ap gives (size_item r q) ∙ sym (checked_by_lem false false false none_13 none_20 (sym (v ∙ size_is)))

-- a dtype within the limits is the one that was read
pub limited_read : (t ns s : List ℕ) (d : Dtype) → limited_dtype t ns s ≡ gives d → read_dtype t ns ≡ gives d
unfolding limited_dtype
limited_read t ns s d h = go (read_dtype t ns) h
  where
    by_tests : (u : Dtype) (a b c : Bool) → unless a 13 (unless b 20 (unless c 21 (gives u))) ≡ gives d → gives u ≡ gives d
    by_tests u true b c e = let z : ◌≡◌ {A = ℕ} 0 1 = cc in absurd (omega arith)
    by_tests u false true c e = let z : ◌≡◌ {A = ℕ} 0 1 = cc in absurd (omega arith)
    by_tests u false false true e = let z : ◌≡◌ {A = ℕ} 0 1 = cc in absurd (omega arith)
    by_tests u false false false e = e

    go : (r : Outcome Dtype) → then r (λ u. unless_over u s (gives u)) ≡ gives d → r ≡ gives d
    go (gives u) e = by_tests u (over_dimensions s || over_levels u) (over_entries u) (over_size u) e
    go (refused n) e = let z : ◌≡◌ {A = ℕ} 0 1 = cc in absurd (omega arith)
