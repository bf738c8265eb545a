-- Document 01, "The record": the item that an index names is "the sum of index times stride". "The refusal numbers": 13 and 22 of its shape, then 26, "index .. of
-- wrong length or not in range". Products are unbounded here.
use Rattle.std.specs.Prelude.{ℕ, not, List}
use Rattle.counts.specs.Outcome.{Outcome, gives, unless}
use Rattle.dtype.specs.declared.Order.{Order}
use Rattle.dtype.specs.Shape.{in_range, item}
use Rattle.dtype.specs.Limits.{over_dimensions, over_shape}

-- the number of the item that an index names, or the first of 13, 22, 26 that applies
unfoldable pub item_of : Order → (shape index : List ℕ) → Outcome ℕ
item_of o s x = unless (over_dimensions s) 13 (unless (over_shape o s) 22 (unless (not (in_range s x)) 26 (gives (item o s x))))
