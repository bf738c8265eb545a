-- The answers of `check`: what `check_dtype` answers for the dtype beside the shape, and then 22.
use Rattle.counts.specs.declared.Bytes.{Bytes}
use Rattle.std.specs.Prelude.{Option}
use Prim.Native.Nat.{ℕ, ◌/◌}
use mathlib.Core.Path.{◌≡◌, refl, ap, sym, ◌∙◌}
use mathlib.Core.Bool.{Bool, true, false, ◌||◌}
use mathlib.Core.List.{List}
use native.Mathlib.Omega.{arith}
use lib.ListN.{length}
use Rattle.counts.specs.Outcome.{Outcome, gives, refused, then, each, unless}
use Rattle.dtype.specs.declared.Order.{Order}
use Rattle.dtype.specs.Dtype.{Dtype}
use Rattle.dtype.specs.Entries.{entries_of}
use Rattle.dtype.specs.Shape.{product}
use Rattle.dtype.specs.Record.{entry_width, Record}
use Rattle.dtype.specs.Limits.{over_dimensions, over_levels, over_entries, over_size, over_shape, unless_over, limited}
use Rattle.shape.specs.Count.{item_count}
use Rattle.check_table.specs.Reading.{read_dtype}
use Rattle.check_record.specs.Limited.{limited_dtype}
use Rattle.check_record.proofs.DtypeChecks.{limited_read, entries_are}
use Rattle.check_record.specs.Checked.{checked_record}
use Rattle.check_record.specs.Valid.{made}
use Rattle.check_record.specs.Answer.{item_size, summary_of, summary}

-- 22, after 27, 13, 20, 21
abbrev counting : List ℕ → Order → Dtype → Outcome Record
counting s o d = unless (over_shape o s) 22 (gives (made d s o))

limited_then : (d : Dtype) (s : List ℕ) (o : Order) → limited (made d s o) ≡ then (unless_over d s (gives d)) (counting s o)
unfolding limited
limited_then d s o = go (over_dimensions s || over_levels d) (over_entries d) (over_size d)
  where
    go : (a b c : Bool)
        → unless a 13 (unless b 20 (unless c 21 (counting s o d))) ≡ then (unless a 13 (unless b 20 (unless c 21 (gives d)))) (counting s o)
    go true b c = refl
    go false true c = refl
    go false false true = refl
    go false false false = refl

checked_then : (t ns s : List ℕ) (o : Order) → checked_record t ns s o ≡ then (limited_dtype t ns s) (counting s o)
unfolding checked_record limited_dtype
checked_then t ns s o = go (read_dtype t ns)
  where
    go : (r : Outcome Dtype) → then r (λ d. limited (made d s o)) ≡ then (then r (λ d. unless_over d s (gives d))) (counting s o)
    go (gives d) = limited_then d s o
    go (refused n) = refl

module _ (t ns s : List ℕ) (o : Order) where
  checked_by_lem : (r : Outcome Dtype) → limited_dtype t ns s ≡ r → each summary (checked_record t ns s o) ≡ each summary (then r (counting s o))
  checked_by_lem r e =
      ap (λ (x : Outcome Record). each summary x) (checked_then t ns s o ∙ ap (λ (x : Outcome Dtype). then x (counting s o)) e)

  -- 27, 13, 20, 21
  pub check_refused : (n : ℕ) → refused n ≡ each item_size (limited_dtype t ns s) → refused n ≡ each summary (checked_record t ns s o)
  check_refused n h = go (limited_dtype t ns s) refl h
    where
      go : (r : Outcome Dtype) → limited_dtype t ns s ≡ r → refused n ≡ each item_size r → refused n ≡ each summary (checked_record t ns s o)
      go (gives d) e k = let z : ◌≡◌ {A = ℕ} 0 1 = cc in absurd (omega arith)
      go (refused m) e k = let z : n ≡ m = cc in ap refused z ∙ sym (checked_by_lem (refused m) e)

  -- 22, or what the record has
  pub check_counted : (n : ℕ) → n ≡ length t / entry_width → (z : Option Bytes) → gives z ≡ each item_size (limited_dtype t ns s)
      → each (summary_of n z s) (item_count o s) ≡ each summary (checked_record t ns s o)
  unfolding summary item_count
  check_counted n n_is z h = go (limited_dtype t ns s) refl h
    where
      counted_by : (d : Dtype) (b : Bool) → n ≡ entries_of d → z ≡ item_size d
          → each (summary_of n z s) (unless b 22 (gives (product s))) ≡ each summary (unless b 22 (gives (made d s o)))
      counted_by d true p q = refl
      counted_by d false p q = rw (p, q)

      go : (r : Outcome Dtype) → limited_dtype t ns s ≡ r → gives z ≡ each item_size r
          → each (summary_of n z s) (item_count o s) ≡ each summary (checked_record t ns s o)
      go (gives d) e k =
          let q : z ≡ item_size d = cc in
          counted_by d (over_shape o s) (entries_are t ns s d (limited_read t ns s d e) n n_is) q ∙ sym (checked_by_lem (gives d) e)
      go (refused m) e k = let y : ◌≡◌ {A = ℕ} 0 1 = cc in absurd (omega arith)
