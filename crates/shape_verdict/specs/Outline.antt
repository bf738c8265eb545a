-- What the tests of document 01 that come after a shape or sub-shape need of its dimensions: 13 "over 32 dimensions in a shape or sub-shape", 21 "some
-- entry's size over 2^64-1", 22 "count or a stride of the declared order over 2^64-1", and "An array has n times its inner size". A 0 hides nothing
-- that is on its other side: in C order stride k is the product of all dimensions after k, in Fortran order of all before k. So the largest of these
-- products is that of the dimensions after the last 0, or before the first 0; that this decides 21 and 22 is proved in proofs/Levels.antt and
-- proofs/Orders.antt.
use Rattle.counts.specs.declared.Items.{Items}
use Rattle.counts.specs.declared.Bytes.{Bytes}
use Rattle.std.specs.Prelude.{ℕ, ◌+◌, ◌*◌, List, [], ◌∷◌, Bool, false, ◌||◌, cond, eqb, length, None, Some, Option}
use Rattle.counts.specs.Number.{number, capped}
use Rattle.counts.specs.Counts.{items, bytes, items_over}
use Rattle.dtype.specs.declared.Order.{Order}
use Rattle.dtype.specs.declared.Order.TheVariants.{C, Fortran}
use Rattle.shape_verdict.specs.declared.Outline.{Outline}

-- whether a dimension is 0
abbrev pub has_zero : List ℕ → Bool
has_zero [] = false
has_zero (n ∷ ns) = eqb n 0 || has_zero ns

-- the product of the dimensions before the first 0, of all where there is none
abbrev pub before_zero : List ℕ → ℕ
before_zero [] = 1
before_zero (n ∷ ns) = cond (eqb n 0) 1 (n * before_zero ns)

-- the product of the dimensions after the last 0, of all where there is none
abbrev pub after_zero : List ℕ → ℕ
after_zero [] = 1
after_zero (n ∷ ns) = cond (has_zero (n ∷ ns)) (after_zero ns) (n * after_zero ns)

-- the four together
unfoldable pub outline_of : List ℕ → Outline
outline_of ns = record { rank = length ns; empty = has_zero ns; before = items (number (before_zero ns)); after = items (number (after_zero ns)) }

-- a product, or over, times a dimension that is not 0
unfoldable pub scaled_by : Option Items → ℕ → Option Items
scaled_by (Some a) n = items (number (n * a.0))
scaled_by None n = None

-- the outline with one dimension more after the others, where that makes the rank k
unfoldable pub extended_to : ℕ → Outline → ℕ → Outline
extended_to k o n =
    record {
      rank = k;
      empty = o.empty || eqb n 0;
      before = cond (o.empty || eqb n 0) o.before (scaled_by o.before n);
      after = cond (eqb n 0) (Some (record { 0 = 1 })) (scaled_by o.after n);
    }

abbrev pub extended_by : Outline → ℕ → Outline
extended_by o n = extended_to (o.rank + 1) o n

-- with the dimensions ns after the others
abbrev pub extends : Outline → List ℕ → Outline
extends o [] = o
extends o (n ∷ ns) = extends (extended_by o n) ns

-- the same as it is held: a rank is at most 2^64-1. No text has so many dimensions (`joined_below`, proofs/Outlines.antt)
abbrev pub extended_capped : Outline → ℕ → Outline
extended_capped o n = extended_to (capped (o.rank + 1)) o n

-- so many items of s bytes, where s is not 0
unfoldable pub bytes_of_items : Option Items → ℕ → Option Bytes
bytes_of_items (Some a) s = bytes (number (a.0 * s))
bytes_of_items None s = None

-- 21, by the outline: the largest size that an array level has, over items of s bytes
unfoldable pub largest_in : Outline → ℕ → Option Bytes
largest_in o s = cond (eqb s 0) (Some (record { 0 = 0 })) (bytes_of_items o.after s)

-- 22, by the outline
abbrev pub over_in : Order → Outline → Bool
over_in C o = items_over o.after
over_in Fortran o = items_over o.before
