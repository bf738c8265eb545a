-- Document 01, "The literal": which texts give which values, a rule for each sentence. No rule mentions positions or an order of reading. How deep brackets may nest is
-- `Within` (Value.antt), what a reader must return is Promise.antt. "Words are longest runs" needs no rule: in a text of these rules no two words are adjacent. Prefixes,
-- comments, joined strings and a comma alone have no rule, so no text with one gives a value.
use Rattle.std.specs.Prelude.{ℕ, ◌≡◌, List, [], ◌∷◌, ◌++◌, Bool, true, false, eqb}
use Rattle.decimal.specs.Decimal.{is_digit, decimal}
use Rattle.literal_grammar.specs.Bytes.{is_blank, is_quote, is_break, is_escape, unescape}
use Rattle.literal_grammar.specs.Value.{Value, Values, Items, string, integer, True, False, None, list, tuple, dict, end_of_values, value_then, end_of_items, item_then}

-- every byte of a text passes a test
abbrev pub All : (ℕ → Bool) → List ℕ → Type 0
All test [] = Unit {0}
All test (b ∷ u) = (test b ≡ true) × All test u

-- "Integers are an optional `-`, then `0` or a nonzero digit with more digits.": digits and the number that they write (48 is `0`)
pub data Natural : List ℕ → ℕ → Type 0 where
  nought : Natural (48 ∷ []) 0
  nonzero : {d : ℕ} {u : List ℕ} → is_digit d ≡ true → eqb d 48 ≡ false → All is_digit u → Natural (d ∷ u) (decimal (d ∷ u))

-- "Strings stand in `'` or `"`, hold no raw LF or CR, and know the escapes `\\ \' \" \n \r \t` only.": the text after the opening quote q up to and with the closing
-- one, and the bytes that it means (92 is the backslash)
pub data Quoted (q : ℕ) : List ℕ → List ℕ → Type 0 where
  closed : Quoted q (q ∷ []) []
  -- a byte that means itself: not the quote, a backslash, LF or CR
  raw : {b : ℕ} {u w : List ℕ} → eqb b q ≡ false → eqb b 92 ≡ false → is_break b ≡ false → Quoted q u w → Quoted q (b ∷ u) (b ∷ w)
  -- a backslash and one of the six letters
  escaped : {b : ℕ} {u w : List ℕ} → is_escape b ≡ true → Quoted q u w → Quoted q (92 ∷ b ∷ u) (unescape b ∷ w)

-- the values without brackets: "a string, an integer, `True`, `False`, `None`"
pub data Plain : List ℕ → Value → Type 0 where
  in_quotes : {q : ℕ} {u w : List ℕ} → is_quote q ≡ true → Quoted q u w → Plain (q ∷ u) (string w)
  unsigned : {u : List ℕ} {n : ℕ} → Natural u n → Plain u (integer false n)
  -- 45 is `-`
  minus_sign : {u : List ℕ} {n : ℕ} → Natural u n → Plain (45 ∷ u) (integer true n)
  -- the bytes of `True`, `False` and `None`
  word_true : Plain (84 ∷ 114 ∷ 117 ∷ 101 ∷ []) True
  word_false : Plain (70 ∷ 97 ∷ 108 ∷ 115 ∷ 101 ∷ []) False
  word_none : Plain (78 ∷ 111 ∷ 110 ∷ 101 ∷ []) None

mutual
  -- the text s gives the value v: "The text is exactly one value." "A list holds values, and a value may be a list." The bracket bytes are 91 `[` and 93 `]`, 40 `(` and
  -- 41 `)`, 123 `{` and 125 `}`; 44 is the comma, 58 the colon
  pub data Gives : List ℕ → Value → Type 0 where
    plain : {s : List ℕ} {v : Value} → Plain s v → Gives s v
    -- "Blanks are space, tab, LF, CR, allowed around any token and around the whole."
    around : {s : List ℕ} {v : Value} (a x b : List ℕ) → s ≡ a ++ x ++ b → All is_blank a → Gives x v → All is_blank b → Gives s v
    -- "A list is `[`, no or more values parted by commas, optional last comma, `]`."
    in_square : {s : List ℕ} {vs : Values} (u : List ℕ) → s ≡ 91 ∷ u ++ 93 ∷ [] → Listed u vs → Gives s (list vs)
    -- "A tuple likewise with `(` `)`, but one element needs its comma: `(3)` is no value."
    in_round : {s : List ℕ} {vs : Values} (u : List ℕ) → s ≡ 40 ∷ u ++ 41 ∷ [] → Tupled u vs → Gives s (tuple vs)
    -- "A dict has `key: value` items, both sides any values, in braces with the same commas."
    in_braces : {s : List ℕ} {es : Items} (u : List ℕ) → s ≡ 123 ∷ u ++ 125 ∷ [] → Paired u es → Gives s (dict es)

  -- between the brackets of a list: nothing, a last value, or a value, a comma and more
  pub data Listed : List ℕ → Values → Type 0 where
    no_values : {u : List ℕ} → All is_blank u → Listed u end_of_values
    last_value : {u : List ℕ} {v : Value} → Gives u v → Listed u (value_then v end_of_values)
    value_comma : {s : List ℕ} {v : Value} {vs : Values} (u w : List ℕ) → s ≡ u ++ 44 ∷ w → Gives u v → Listed w vs → Listed s (value_then v vs)

  -- between the brackets of a tuple: nothing, or a value, a comma and then as in a list
  pub data Tupled : List ℕ → Values → Type 0 where
    no_elements : {u : List ℕ} → All is_blank u → Tupled u end_of_values
    element_comma : {s : List ℕ} {v : Value} {vs : Values} (u w : List ℕ) → s ≡ u ++ 44 ∷ w → Gives u v → Listed w vs → Tupled s (value_then v vs)

  -- between the braces of a dict: nothing, a last item, or an item, a comma and more
  pub data Paired : List ℕ → Items → Type 0 where
    no_items : {u : List ℕ} → All is_blank u → Paired u end_of_items
    last_item : {s : List ℕ} {k v : Value} (x y : List ℕ) → s ≡ x ++ 58 ∷ y → Gives x k → Gives y v → Paired s (item_then k v end_of_items)
    item_comma : {s : List ℕ} {k v : Value} {es : Items} (x y w : List ℕ) → s ≡ x ++ 58 ∷ y ++ 44 ∷ w → Gives x k → Gives y v → Paired w es → Paired s (item_then k v es)
