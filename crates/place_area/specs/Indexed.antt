-- Document 01, "The refusal numbers": 24, "place asked under a dtype with `O`"; 25, "file shorter than data start + count times item size"; 26, "index .. of wrong
-- length or not in range". They apply in this order, to a size, a count and a shape, whatever these are; a shape that is itself over its limits is refused as `item_of` says.
-- Products are unbounded here.
use Rattle.std.specs.Prelude.{ℕ, ◌+◌, ◌*◌, List, ltb, None, Some, Option}
use Rattle.counts.specs.Outcome.{Outcome, refused, each, unless}
use Rattle.counts.specs.declared.Bytes.{Bytes}
use Rattle.dtype.specs.declared.Order.{Order}
use Rattle.place_item.specs.Item.{item_of}
use Rattle.place_area.specs.declared.Numbered.{Numbered}

-- an item of this size by its number
abbrev pub numbered : Bytes → ℕ → Numbered
numbered size n = record { which = record { 0 = n }; size = size }

-- the item that an index names in a file of this length, the data starting at `start`; or the first that applies of 24, 25, and 13, 22, 26 of its item number
abbrev pub indexed : (file start : ℕ) → Option Bytes → (count : ℕ) → Order → (shape index : List ℕ) → Outcome Numbered
indexed file start (Some n) count o s x = unless (ltb file (start + count * n.0)) 25 (each (numbered n) (item_of o s x))
indexed file start None count o s x = refused 24
