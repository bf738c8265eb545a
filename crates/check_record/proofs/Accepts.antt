-- The check accepts exactly the tables and names of a dtype whose types type strings give, whose names are UTF-8, that is no array, and that is with
-- its shape within the limits.
use Prim.Native.Nat.{ℕ}
use mathlib.Core.Path.{◌≡◌, refl, sym, ap, subst, ◌∙◌}
use mathlib.Core.Bool.{Bool, true, false, ◌||◌}
use mathlib.Core.List.{List}
use native.Mathlib.Omega.{arith}
use Rattle.counts.specs.Outcome.{Outcome, gives, refused, then, unless}
use Rattle.dtype.specs.declared.Order.{Order}
use Rattle.dtype.specs.Dtype.{Dtype}
use Rattle.dtype.specs.Record.{Record, table_of}
use Rattle.dtype.specs.Limits.{over_dimensions, over_levels, over_entries, over_size, over_shape, limited}
use Rattle.dtype.proofs.Record.{table_of_right, table_of_these}
use Rattle.dtype.proofs.Seen.{or_left, or_right}
use Rattle.check_table.specs.Reading.{untyped, ill_named, is_array, unread, read_dtype}
use Rattle.check_table.proofs.Readable.{readable_typed, readable_named, readable_by}
use Rattle.check_record.specs.Checked.{checked_record}
use Rattle.check_record.specs.Valid.{made, Valid}

limits_by : (r r' : Record) (a b c e : Bool) → unless a 13 (unless b 20 (unless c 21 (unless e 22 (gives r)))) ≡ gives r'
    → (a ≡ false) × (b ≡ false) × (c ≡ false) × (e ≡ false) × (r ≡ r')
limits_by r r' true b c e h = let z : ◌≡◌ {A = ℕ} 0 1 = cc in absurd (omega arith)
limits_by r r' false true c e h = let z : ◌≡◌ {A = ℕ} 0 1 = cc in absurd (omega arith)
limits_by r r' false false true e h = let z : ◌≡◌ {A = ℕ} 0 1 = cc in absurd (omega arith)
limits_by r r' false false false true h = let z : ◌≡◌ {A = ℕ} 0 1 = cc in absurd (omega arith)
limits_by r r' false false false false h = (refl, refl, refl, refl, cc)

limits_made : (q r : Record) → limited q ≡ gives r → q ≡ r
unfolding limited
limits_made q r h =
    (limits_by q r (over_dimensions q.shape || over_levels q.dtype) (over_entries q.dtype) (over_size q.dtype) (over_shape q.order q.shape) h).4

-- within 13, 20, 21 and 22
pub limits_of_lem : (r : Record) → limited r ≡ gives r
    → ((over_dimensions r.shape || over_levels r.dtype) ≡ false) × (over_entries r.dtype ≡ false) × (over_size r.dtype ≡ false) × (over_shape r.order r.shape ≡ false)
unfolding limited
limits_of_lem r h =
    let (a, b, c, e, _) =
    limits_by r r (over_dimensions r.shape || over_levels r.dtype) (over_entries r.dtype) (over_size r.dtype) (over_shape r.order r.shape) h in
    (a, b, c, e)

module _ (t ns s : List ℕ) (o : Order) (r : Record) where
  by_test : (d : Dtype) → table_of t ns ≡ gives d → (b : Bool) → unread d ≡ b → then (unless b 27 (gives d)) (λ u. limited (made u s o)) ≡ gives r
      → (d : Dtype) × (r ≡ made d s o) × Valid t ns s o (made d s o)
  by_test d p true e k = let z : ◌≡◌ {A = ℕ} 0 1 = cc in absurd (omega arith)
  by_test d p false e k =
      let v = table_of_right t ns d p in
      let rest = or_right (is_array d) (untyped d || ill_named d) e in
      let same = limits_made (made d s o) r k in (
        d,
        sym same,
        record {
          table_is = v.0;
          names_are = v.1;
          shape_is = refl;
          order_is = refl;
          no_array = or_left (is_array d) (untyped d || ill_named d) e;
          readable = readable_by d (or_left (untyped d) (ill_named d) rest) (or_right (untyped d) (ill_named d) rest);
          limits = k ∙ ap gives (sym same);
        },
      )

  -- what is accepted is valid ..
  pub accepts_valid : checked_record t ns s o ≡ gives r → (d : Dtype) × (r ≡ made d s o) × Valid t ns s o (made d s o)
  unfolding checked_record read_dtype
  accepts_valid h = go (table_of t ns) refl h
    where
      go : (c : Outcome Dtype) → table_of t ns ≡ c → then (then c (λ d. unless (unread d) 27 (gives d))) (λ u. limited (made u s o)) ≡ gives r
          → (d : Dtype) × (r ≡ made d s o) × Valid t ns s o (made d s o)
      go (gives d) e k = by_test d e (unread d) refl k
      go (refused n) e k = let z : ◌≡◌ {A = ℕ} 0 1 = cc in absurd (omega arith)

  pub checked_valid : checked_record t ns s o ≡ gives r → Valid t ns s o r
  checked_valid h = let (d, is, v) = accepts_valid h in subst (λ (x : Record). Valid t ns s o x) (sym is) v

  -- .. and what is valid is accepted
  valid_read : Valid t ns s o r → read_dtype t ns ≡ gives r.dtype
  unfolding read_dtype
  valid_read v =
      let d = r.dtype in
      simp (table_of_these t ns d v.table_is v.names_are, v.no_array, readable_typed d v.readable, readable_named d v.readable)

  pub valid_checked : Valid t ns s o r → checked_record t ns s o ≡ gives r
  unfolding checked_record
  valid_checked v = rw (checked_record, valid_read v, v.shape_is, v.order_is) v.limits
