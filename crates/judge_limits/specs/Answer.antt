-- The limits, by what the reader keeps of a shape (crate shape_verdict) and of a dtype (crate descr_totals): 13 of a shape; 13 for sub-shapes, 20, 21, 22, in this order. That
-- these are the limits of the record is `rank_says` and `limits_say` in proofs/Tests.antt.
use Rattle.std.specs.Prelude.{◌||◌, ◌&&◌, not, ltb}
use Rattle.counts.specs.Outcome.{Outcome, gives, unless}
use Rattle.dtype.specs.declared.Order.{Order}
use Rattle.shape_verdict.specs.declared.Outline.{Outline}
use Rattle.shape_verdict.specs.Outline.{over_in}
use Rattle.descr_totals.specs.declared.Totals.{Totals}

-- 13, "over 32 dimensions in a shape": of the shape itself, once it has been read
abbrev pub rank_limit : Outline → Outcome Unit
rank_limit x = unless (ltb 32 x.rank) 13 (gives tt)

-- "then 13 for sub-shapes, 20, 21, 22": 20 is "over 512 entries or 65,536 bytes of field names", 21 "no `O`, and some entry's size over 2^64-1"
abbrev pub limits_of : Order → Outline → Totals → Outcome Unit
limits_of o x t =
    unless t.over_levels 13
    (unless (ltb 512 t.entries || ltb 65536 t.names) 20 (unless (not t.object && t.over) 21 (unless (over_in o x) 22 (gives tt))))
