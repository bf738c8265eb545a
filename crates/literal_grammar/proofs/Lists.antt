-- Values and items as lists of them.
use mathlib.Core.List.{List, [], ◌∷◌}
use Rattle.literal_grammar.specs.Value.{Value, Values, Items, end_of_values, value_then, end_of_items, item_then}

-- one `key: value` item
pub record Item : Type 0 where
  pub key : Value
  pub value : Value

-- a list of values as `Values`
abbrev pub values : List Value → Values
values [] = end_of_values
values (v ∷ vs) = value_then v (values vs)

-- a list of items as `Items`
abbrev pub items : List Item → Items
items [] = end_of_items
items (e ∷ es) = item_then e.key e.value (items es)
