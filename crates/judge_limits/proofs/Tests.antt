-- The limits by the totals and the outline are those of the record.
use Prim.Native.Nat.{ℕ}
use mathlib.Core.Path.{◌≡◌, refl}
use mathlib.Core.List.{List}
use mathlib.Core.Bool.{Bool, true, false, ◌||◌}
use Rattle.counts.specs.Outcome.{gives, each, unless}
use Rattle.dtype.specs.declared.Order.{Order}
use Rattle.dtype.specs.Dtype.{Dtype}
use Rattle.dtype.specs.Record.{Record}
use Rattle.dtype.specs.Limits.{over_dimensions, over_levels, over_entries, over_size, over_shape, limited}
use Rattle.record.specs.Dimensions.{ranked}
use Rattle.shape_verdict.specs.Outline.{outline_of}
use Rattle.shape_verdict.proofs.Orders.{outline_over}
use Rattle.descr_totals.specs.Totals.{totals_of}
use Rattle.descr_totals.proofs.Limits.{over_levels_say, entries_say, over_says}
use Rattle.judge_limits.specs.Answer.{rank_limit, limits_of}

-- four tests in their order, of which the first is asked beside one that does not hold
in_order_lem : (r : Record) (n a b c d : Bool) → n ≡ false
    → each {A = Unit} (λ u. r) (unless a 13 (unless b 20 (unless c 21 (unless d 22 (gives tt))))) ≡ unless (n || a) 13 (unless b 20 (unless c 21 (unless d 22 (gives r))))
in_order_lem r n true b c d h = rw h refl
in_order_lem r n false true c d h = rw h refl
in_order_lem r n false false true d h = rw h refl
in_order_lem r n false false false true h = rw h refl
in_order_lem r n false false false false h = rw h refl

pub limits_say : (o : Order) (s : List ℕ) (d : Dtype) → over_dimensions s ≡ false
    → each {A = Unit} (λ u. record { dtype = d; shape = s; order = o }) (limits_of o (outline_of s) (totals_of d)) ≡ limited (record { dtype = d; shape = s; order = o })
unfolding limited
limits_say o s d h =
    rw (over_levels_say d, entries_say d, over_says d, outline_over o s)
    (in_order_lem (record { dtype = d; shape = s; order = o }) (over_dimensions s) (over_levels d) (over_entries d) (over_size d) (over_shape o s) h)

one_test : (s : List ℕ) (b : Bool) → each {A = Unit} (λ u. s) (unless b 13 (gives tt)) ≡ unless b 13 (gives s)
one_test s true = refl
one_test s false = refl

pub rank_says : (s : List ℕ) → each {A = Unit} (λ u. s) (rank_limit (outline_of s)) ≡ ranked s
unfolding outline_of
rank_says s = one_test s (over_dimensions s)
