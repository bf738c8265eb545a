-- Texts as the writer prints them: a layout, its bytes followed by a given text, and the value that it gives. Document 01, "Header bytes out", has three layouts:
-- `(3, )`, `('b', '<f8', (2,3,))` and "every field followed by comma and space". record/specs/Layout.antt says which part takes which; no layout prints `None` or
-- a negative number, since no written header has one.
use Rattle.std.specs.Prelude.{ℕ, zero, suc, List, [], ◌∷◌, Bool, true, false, cond, eqb}
use Rattle.decimal.specs.Decimal.{printed}
use Rattle.literal_grammar.specs.Value.{Value, Values, Items, string, integer, True, False, list, tuple, dict, end_of_values, value_then, end_of_items, item_then}

mutual
  pub data Layout : Type 0 where
    quote : List ℕ → Layout
    number : ℕ → Layout
    word : Bool → Layout
    square : Row → Layout
    -- `()`; or a first value, its comma, this many spaces, and the other values: a tuple of one element without its comma has no layout
    unit : Layout
    round : Layout → (spaces : ℕ) → Row → Layout
    braces : Pairs → Layout

  -- values: none, a last one, or one, its comma, this many spaces, and more
  pub data Row : Type 0 where
    ended : Row
    last : Layout → Row
    more : Layout → (spaces : ℕ) → Row → Row

  -- items: none, or a key, its colon, this many spaces, a value, its comma, this many spaces, and more
  pub data Pairs : Type 0 where
    no_more : Pairs
    pair : (key : Layout) → (spaces : ℕ) → (value : Layout) → (spaces' : ℕ) → Pairs → Pairs

-- n spaces, then r
abbrev pub spaces : ℕ → List ℕ → List ℕ
spaces zero r = r
spaces (suc n) r = 32 ∷ spaces n r

-- "Names are quoted with `'`, and backslash, `'`, CR, LF are escaped.": the letter after the backslash (`\` 92, `'` 39, `r` 114, `n` 110), or 0 for a byte printed as it is
unfoldable pub escape_of : ℕ → ℕ
escape_of b = cond (eqb b 92) 92 (cond (eqb b 39) 39 (cond (eqb b 13) 114 (cond (eqb b 10) 110 0)))

-- one byte between the quotes, then r: as it is, or a backslash (92) and its letter
abbrev pub spelled_byte : (letter b : ℕ) → List ℕ → List ℕ
spelled_byte zero b r = b ∷ r
spelled_byte (suc c) b r = 92 ∷ suc c ∷ r

-- the bytes of a string as printed between its quotes, then r
abbrev pub escapes : List ℕ → List ℕ → List ℕ
escapes [] r = r
escapes (b ∷ w) r = spelled_byte (escape_of b) b (escapes w r)

-- `True` or `False`, then r
abbrev pub word_text : Bool → List ℕ → List ℕ
word_text true r = 84 ∷ 114 ∷ 117 ∷ 101 ∷ r
word_text false r = 70 ∷ 97 ∷ 108 ∷ 115 ∷ 101 ∷ r

-- the bytes of a layout, then r: 39 is `'`, 91 `[`, 93 `]`, 40 `(`, 41 `)`, 123 `{`, 125 `}`, 44 the comma, 58 the colon
abbrev mutual
  pub print : Layout → List ℕ → List ℕ
  print (quote w) r = 39 ∷ escapes w (39 ∷ r)
  print (number n) r = printed n r
  print (word b) r = word_text b r
  print (square ds) r = 91 ∷ print_row ds (93 ∷ r)
  print unit r = 40 ∷ 41 ∷ r
  print (round d n ds) r = 40 ∷ print d (44 ∷ spaces n (print_row ds (41 ∷ r)))
  print (braces es) r = 123 ∷ print_pairs es (125 ∷ r)

  pub print_row : Row → List ℕ → List ℕ
  print_row ended r = r
  print_row (last d) r = print d r
  print_row (more d n ds) r = print d (44 ∷ spaces n (print_row ds r))

  pub print_pairs : Pairs → List ℕ → List ℕ
  print_pairs no_more r = r
  print_pairs (pair k m d n es) r = print k (58 ∷ spaces m (print d (44 ∷ spaces n (print_pairs es r))))

-- the value that a layout gives
abbrev mutual
  pub value_of : Layout → Value
  value_of (quote w) = string w
  value_of (number n) = integer false n
  value_of (word b) = cond b True False
  value_of (square ds) = list (values_of ds)
  value_of unit = tuple end_of_values
  value_of (round d n ds) = tuple (value_then (value_of d) (values_of ds))
  value_of (braces es) = dict (items_of es)

  pub values_of : Row → Values
  values_of ended = end_of_values
  values_of (last d) = value_then (value_of d) end_of_values
  values_of (more d n ds) = value_then (value_of d) (values_of ds)

  pub items_of : Pairs → Items
  items_of no_more = end_of_items
  items_of (pair k m d n es) = item_then (value_of k) (value_of d) (items_of es)
