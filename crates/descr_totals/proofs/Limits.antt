-- The totals of a finished dtype say what crate dtype's Limits.antt asks of it, 13, 20 and 21, and the numbers themselves where no limit is passed: a cap
-- is one past what it is tested against.
use Prim.Native.Nat.{ℕ, ◌+◌, ◌≤◌}
use native.Mathlib.Omega.{arith}
use mathlib.Core.Path.{◌≡◌, refl, ap, ◌∙◌}
use mathlib.Core.Bool.{Bool, true, false, ◌||◌, ◌&&◌, not}
use lib.Dec.{ltb}
use borrow.Author.Tests.{ltb-true, ltb-false, lt-ltb, le-ltb}
use Rattle.dtype.specs.Dtype.{Dtype, plain, array, record_of, size_of}
use Rattle.dtype.specs.Entries.{entries_of}
use Rattle.dtype.specs.Record.{name_bytes_of}
use Rattle.dtype.specs.Limits.{over, some_over, over_entries, over_levels, over_size}
use Rattle.descr_totals.specs.Totals.{at_most, totals_of}

-- an entry counts itself
pub own_over : (d : Dtype) → over (size_of d) ≡ true → some_over d ≡ true
own_over (plain t) h = h
own_over (array n d) h = rw h
own_over (record_of fs) h = rw h

-- a cap that is past a limit does not matter to the limit's test
cap_test : (m n : ℕ) → ltb m (at_most (m + 1) n) ≡ ltb m n
cap_test m n = go (ltb m n) refl
  where
    go : (t : Bool) → ltb m n ≡ t → ltb m (at_most (m + 1) n) ≡ t
    go true h =
        let lt = ltb-true m n h in
        lt-ltb m (at_most (m + 1) n) (omega arith)
    go false h =
        let le = ltb-false m n h in
        le-ltb m (at_most (m + 1) n) (omega arith)

module _ (d : Dtype) where
  -- 13
  pub over_levels_say : (totals_of d).over_levels ≡ over_levels d
  over_levels_say = refl

  -- 20
  pub entries_say : (ltb 512 (totals_of d).entries || ltb 65536 (totals_of d).names) ≡ over_entries d
  entries_say = ap (λ (t : Bool). t || ltb 65536 (totals_of d).names) (cap_test 512 (entries_of d)) ∙ ap (λ (t : Bool). ltb 512 (entries_of d) || t) (cap_test 65536 (name_bytes_of d))

  pub entries_are : entries_of d ≤ 512 → (totals_of d).entries ≡ entries_of d
  entries_are h = omega arith

  pub names_are : name_bytes_of d ≤ 65536 → (totals_of d).names ≡ name_bytes_of d
  names_are h = omega arith

  -- 21
  pub over_says : (not (totals_of d).object && (totals_of d).over) ≡ over_size d
  over_says = refl
