-- The answers of `place`. A place is what the path names in the item that the index names (`placed_then`), so a refusal of the item is the place's, and after it come 26 of the
-- path and the run that document 01's formula gives. What an index in range and a path name lies in the data area, so that past 25 nothing is over 2^64-1.
use Rattle.std.specs.Prelude.{None, Ok, Some, Option}
use Prim.Native.Nat.{ℕ, ◌+◌, ◌*◌, ◌^◌, ◌<◌, ◌≤◌}
use mathlib.Core.Path.{◌≡◌, refl, ap, sym, ◌∙◌}
use mathlib.Core.Bool.{Bool, true, false, not, cond}
use mathlib.Core.List.{List}
use native.Mathlib.Omega.{arith}
use borrow.Author.Tests.{ltb-false}
use lib.Dec.{ltb}
use lib.ListN.{length}
use Rattle.counts.specs.Outcome.{Outcome, gives, refused, then, each, unless}
use Rattle.counts.specs.Number.{number}
use Rattle.counts.specs.Counts.{bytes}
use Rattle.type_str.specs.declared.TypeStr.{TypeStr}
use Rattle.counts.specs.declared.Items.{Items}
use Rattle.counts.specs.declared.Bytes.{Bytes}
use Rattle.counts.proofs.Alike.{true_false}
use Rattle.dtype.specs.declared.Order.{Order}
use Rattle.dtype.specs.Dtype.{Dtype, size_of}
use Rattle.dtype.specs.Entries.{has_object}
use Rattle.dtype.specs.Shape.{product, in_range, item}
use Rattle.dtype.specs.Record.{Record, table}
use Rattle.dtype.specs.PlainBytes.{plain_bytes}
use Rattle.dtype.specs.Limits.{over_dimensions, over_levels, some_over, over_size, over_shape}
use Rattle.dtype.specs.Places.{plain_at, offset, data_bytes, place}
use Rattle.dtype.proofs.Seen.{or_left}
use Rattle.dtype.proofs.Places.{run_inside}
use Rattle.check_record.specs.Checked.{checked_record}
use Rattle.check_record.specs.Answer.{summary}
use Rattle.check_record.specs.declared.Summary.{Summary}
use Rattle.check_record.specs.Valid.{made}
use Rattle.check_record.proofs.Accepts.{limits_of_lem, accepts_valid}
use Rattle.place_area.specs.declared.Run.{Run}
use Rattle.place_area.specs.declared.Numbered.{Numbered}
use Rattle.place_area.specs.Indexed.{numbered, indexed}
use Rattle.counts.proofs.Counted.{bytes_back, bytes_over_lem}
use Rattle.place_area.proofs.Answers.{item_shows}
use Rattle.place_item.specs.Item.{item_of}
use Rattle.place_item.proofs.Sums.{range_of}
use Rattle.place_item.proofs.Items.{item_within, item_given}
use Rattle.place.specs.Place.{run_from, placed, place_of}
use Rattle.place.specs.Walk.{Finds, Accepted}
use Rattle.place.proofs.Walks.{plain_path}

-- ---- `in_record`
module _ (t ns s : List ℕ) (o : Order) (d : Dtype) (size : Option Bytes) (count : Items) (a : Accepted t ns s o d size count) where
  pub shape_short : length s ≤ 32
  shape_short = ltb-false 32 (length s) (or_left (over_dimensions s) (over_levels d) (limits_of_lem (made d s o) a.valid.limits).0)

  pub shape_fits : over_shape o s ≡ false
  shape_fits = (limits_of_lem (made d s o) a.valid.limits).3

  size_by : (b : Bool) → over_size d ≡ false → has_object d ≡ b → b ≡ false → some_over d ≡ false
  size_by true f e g = true_false g
  size_by false f e g = simp e at f

  none_over : has_object d ≡ false → some_over d ≡ false
  none_over e = size_by (has_object d) (limits_of_lem (made d s o) a.valid.limits).2 refl e

  sized_by_lem : (n : Bytes) (b : Bool) → Some n ≡ cond {A = Option Bytes} b None (Some (record { 0 = size_of d })) → (b ≡ false) × (n.0 ≡ size_of d)
  sized_by_lem n true e = let z : ◌≡◌ {A = ℕ} 0 1 = cc in absurd (omega arith)
  sized_by_lem n false e = let z : n ≡ record { 0 = size_of d } = cc in (refl, ap (λ (y : Bytes). y.0) z)

  module _ (n : Bytes) (q : size ≡ Some n) where
    sized : (has_object d ≡ false) × (n.0 ≡ size_of d)
    sized = sized_by_lem n (has_object d) (sym q ∙ a.size_is)

    -- what `follow` asks
    pub follow_asks : (t ≡ table d) × (some_over d ≡ false)
    follow_asks = (a.valid.table_is, none_over sized.0)

  module _ (file start : ℕ) (x p : List ℕ) where
    -- what the path names in an item
    abbrev at_item : Numbered → Outcome Run
    at_item i = each (λ ty. run_from (start + i.which.0 * i.size.0 + offset d p) ty) (plain_at d p)

    by_tests : (n : Bytes) (m : ℕ) (short inside : Bool) (c : Outcome TypeStr)
        → unless short 25 (unless (not inside) 26 (each (λ ty. run_from (start + n.0 * m + offset d p) ty) c))
        ≡ then (unless short 25 (each (numbered n) (unless (not inside) 26 (gives m)))) (λ i. each (λ ty. run_from (start + i.which.0 * i.size.0 + offset d p) ty) c)
    by_tests n m true inside c = refl
    by_tests n m false false c = refl
    by_tests n m false true c = let z : n.0 * m ≡ m * n.0 = omega arith in rw z

    by_object : (b : Bool) → has_object d ≡ b → placed file start (made d s o) x p
        ≡ then (indexed file start (cond {A = Option Bytes} b None (Some (record { 0 = size_of d }))) (product s) o s x) at_item
    unfolding placed
    by_object true e = simp e
    by_object false e =
        rw (e, item_within o s x shape_short shape_fits)
        (by_tests (record { 0 = size_of d }) (item o s x) (ltb file (start + product s * size_of d)) (in_range s x) (plain_at d p))

    -- a place is what the path names in the item that the index names
    pub placed_then : placed file start (made d s o) x p ≡ then (indexed file start size count.0 o s x) at_item
    placed_then = rw (a.size_is, a.count_is) (by_object (has_object d) refl)

    -- 24, 25, and 26 of the index
    pub answer_refused : (n : ℕ) → refused n ≡ indexed file start size count.0 o s x → refused n ≡ placed file start (made d s o) x p
    answer_refused n h = ap (λ (c : Outcome Numbered). then c at_item) h ∙ sym placed_then

    module _ (i : Numbered) (h : gives i ≡ indexed file start size count.0 o s x) where
      answer_item : at_item i ≡ placed file start (made d s o) x p
      answer_item = ap (λ (c : Outcome Numbered). then c at_item) h ∙ sym placed_then

      -- 26 of the path
      pub answer_path : (n : ℕ) → plain_at d p ≡ refused n → refused n ≡ placed file start (made d s o) x p
      answer_path n e = sym (ap (λ (c : Outcome TypeStr). each (λ ty. run_from (start + i.which.0 * i.size.0 + offset d p) ty) c) e) ∙ answer_item

      module _ (u : Run) (f : Finds d p (Ok u)) where
        shown : (size ≡ Some i.size) × (ltb file (start + count.0 * i.size.0) ≡ false) × (gives i.which.0 ≡ item_of o s x)
        shown = item_shows file start count.0 o s x size i h

        index_in_range : (in_range s x ≡ true) × (item o s x ≡ i.which.0)
        index_in_range = item_given o s x shape_short shape_fits i.which.0 shown.2

        long : start + data_bytes (made d s o) ≤ file
        long =
            let z : start + count.0 * i.size.0 ≡ start + data_bytes (made d s o) = rw (a.count_is, (sized i.size shown.0).1) in
            omega (arith, z, ltb-false file (start + count.0 * i.size.0) shown.1)

        first_at : start + i.which.0 * i.size.0 + u.first.0 ≡ place start (made d s o) x p
        first_at = rw (← index_in_range.1, (sized i.size shown.0).1, f.1) (omega arith)

        below : place start (made d s o) x p ≤ file
        below = omega (arith, long, run_inside start (made d s o) x p (range_of s x index_in_range.0) (plain_path d p u.kind f.0))

        -- the first byte is not over 2^64-1
        pub answer_over : file < 2 ^ 64 → None ≡ bytes (number (start + i.which.0 * i.size.0 + u.first.0)) → refused 26 ≡ placed file start (made d s o) x p
        answer_over l k = absurd (omega (arith, first_at, below, bytes_over_lem (start + i.which.0 * i.size.0 + u.first.0) k))

        pub answer_at : (c : Bytes) → Some c ≡ bytes (number (start + i.which.0 * i.size.0 + u.first.0))
            → gives (record { first = c; len = u.len; kind = u.kind }) ≡ placed file start (made d s o) x p
        answer_at c k =
            let z : c.0 ≡ start + i.which.0 * i.size.0 + offset d p = sym (bytes_back (start + i.which.0 * i.size.0 + u.first.0) c k).0 ∙ rw f.1 in
            run_is c.0 u.len.0 z f.2 ∙ sym (ap (λ (v : Outcome TypeStr). each (λ ty. run_from (start + i.which.0 * i.size.0 + offset d p) ty) v) f.0) ∙ answer_item
          where
            run_is : (c l : ℕ) → c ≡ start + i.which.0 * i.size.0 + offset d p → l ≡ plain_bytes u.kind
                → ◌≡◌ {A = Outcome Run} (gives (record { first = record { 0 = c }; len = record { 0 = l }; kind = u.kind }))
                (gives (run_from (start + i.which.0 * i.size.0 + offset d p) u.kind))
            run_is c l z y = rw (z, y)

-- ---- `place`
pub refused_first : (n : ℕ) (c : Outcome Record) (f : Record → Outcome Run) → refused n ≡ each summary c → refused n ≡ then c f
refused_first n (gives r) f h = let z : ◌≡◌ {A = ℕ} 0 1 = cc in absurd (omega arith)
refused_first n (refused m) f h = cc

pub place_refused : (n file start : ℕ) (t ns s : List ℕ) (o : Order) (x p : List ℕ) → refused n ≡ each summary (checked_record t ns s o)
    → refused n ≡ place_of file start t ns s o x p
unfolding place_of
place_refused n file start t ns s o x p h = refused_first n (checked_record t ns s o) (λ r. placed file start r x p) h

summary_of_lem : (c : Outcome Record) (f : Summary) → gives f ≡ each summary c → (r : Record) × (c ≡ gives r) × (f ≡ summary r)
summary_of_lem (gives r) f h = (r, refl, cc)
summary_of_lem (refused n) f h = let z : ◌≡◌ {A = ℕ} 0 1 = cc in absurd (omega arith)

pub accepted_all : (t ns s : List ℕ) (o : Order) (f : Summary) → gives f ≡ each summary (checked_record t ns s o)
    → (d : Dtype) × (checked_record t ns s o ≡ gives (made d s o)) × Accepted t ns s o d f.size f.count
unfolding summary
accepted_all t ns s o f h =
    let v = summary_of_lem (checked_record t ns s o) f h in
    let u = accepts_valid t ns s o v.0 v.1 in
    let d : Dtype = u.0 in
    let w : f ≡ summary (made d s o) = v.2 ∙ ap (λ (r : Record). summary r) u.1 in (
      d,
      v.1 ∙ ap gives u.1,
      record {
        valid = u.2;
        size_is = ap (λ (g : Summary). g.size) w;
        count_is = ap (λ (g : Summary). g.count.0) w;
      },
    )

pub place_given : (file start : ℕ) (t ns s : List ℕ) (o : Order) (x p : List ℕ) (r : Record) → checked_record t ns s o ≡ gives r
    → placed file start r x p ≡ place_of file start t ns s o x p
unfolding place_of
place_given file start t ns s o x p r h = simp h
