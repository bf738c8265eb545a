-- Document 01, "The literal": "A value is a string, an integer, `True`, `False`, `None`, a list, a tuple or a dict. A list holds values, and a
-- value may be a list." Which texts give which values is Grammar.antt.
-- How many brackets are open at once in a value. Document 01 limits it to 32: refusal 7 is "a bracket that may stand there would be the 33rd open".
-- Brackets inside strings do not count; the three kinds count together.
use Rattle.std.specs.Prelude.{ℕ, zero, suc, List, Bool}

mutual
  -- a string is its decoded bytes; an integer is whether it has a `-`, and the number that its digits write
  pub data Value : Type 0 where
    string : List ℕ → Value
    integer : (minus : Bool) → ℕ → Value
    True False None : Value
    list tuple : Values → Value
    dict : Items → Value

  pub data Values : Type 0 where
    end_of_values : Values
    value_then : Value → Values → Values

  -- the `key: value` items of a dict, in the order of the text
  pub data Items : Type 0 where
    end_of_items : Items
    item_then : (key value : Value) → Items → Items

-- the most brackets that may be open at once: the 33rd is refused
abbrev pub most_open : ℕ
most_open = 32

-- at most k brackets are open at once in the value
unfoldable mutual
  pub Within : Value → ℕ → Type 0
  Within (string w) k = Unit {0}
  Within (integer minus n) k = Unit {0}
  Within True k = Unit {0}
  Within False k = Unit {0}
  Within None k = Unit {0}
  Within (list vs) zero = ⊥
  Within (list vs) (suc k) = AllWithin vs k
  Within (tuple vs) zero = ⊥
  Within (tuple vs) (suc k) = AllWithin vs k
  Within (dict es) zero = ⊥
  Within (dict es) (suc k) = ItemsWithin es k

  pub AllWithin : Values → ℕ → Type 0
  AllWithin end_of_values k = Unit {0}
  AllWithin (value_then v vs) k = Within v k × AllWithin vs k

  pub ItemsWithin : Items → ℕ → Type 0
  ItemsWithin end_of_items k = Unit {0}
  ItemsWithin (item_then key v es) k = Within key k × Within v k × ItemsWithin es k
