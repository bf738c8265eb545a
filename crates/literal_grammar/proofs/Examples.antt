-- Worked examples: what the grammar says of some texts, with positions and 32 brackets. Document 01's 58 characters and their value; the byte at
-- which each faulty text is refused; both sides of the limit; then three layouts and what they print. Each is computed, those of the grammar by the
-- reading, which keeps the promise.
use Prim.Native.Nat.{ℕ, zero, suc}
use mathlib.Core.Path.{◌≡◌, refl, subst}
use mathlib.Core.List.{List, [], ◌∷◌, ◌++◌}
use mathlib.Core.Bool.{true, false}
use Rattle.decimal.specs.Decimal.{is_digit, digits_of, decimal_from, last_digits, printed}
use Rattle.literal_grammar.specs.Bytes.{is_blank, is_quote, is_break, is_escape, unescape}
use Rattle.literal_grammar.specs.Value.{Value, string, integer, None, list, tuple, dict, end_of_values, value_then, end_of_items, item_then}
use Rattle.literal_grammar.specs.Promise.{Got, got, fault, deep, PromiseAt}
use Rattle.literal_grammar.specs.Print.{Layout, quote, number, word, square, round, braces, ended, last, more, no_more, pair, escape_of, print, value_of}
use Rattle.literal_grammar.proofs.Reading.{skip, after_digits, natural, word as ReadsWord, quoted, parted, up_to, paired, bracketed, kind_of, value, alone, literal}
use Rattle.literal_grammar.proofs.Kept.{placed, kept_at}

-- n times the byte b
abbrev times : ℕ → ℕ → List ℕ
times zero b = []
times (suc n) b = b ∷ times n b

-- n lists, each but the innermost holding the next
abbrev nested : ℕ → Value
nested zero = list end_of_values
nested (suc n) = list (value_then (nested n) end_of_values)

-- a text, and what the grammar says of it
pub record Example : Type 0 where
  pub text : List ℕ
  pub outcome : Got ℕ Value

abbrev says : List ℕ → Got ℕ Value → Example
says s g = record { text = s; outcome = g }

-- `{'descr': '<i4', 'fortran_order': False, 'shape': (3, ), }`
abbrev header : List ℕ
header = 123 ∷ 39 ∷ 100 ∷ 101 ∷ 115 ∷ 99 ∷ 114 ∷ 39 ∷ 58 ∷ 32 ∷ 39 ∷ 60 ∷ 105 ∷ 52 ∷ 39 ∷ 44 ∷ 32 ∷ 39 ∷ 102 ∷ 111 ∷ 114 ∷ 116 ∷ 114 ∷ 97 ∷ 110 ∷ 95 ∷ 111 ∷ 114 ∷ 100 ∷ 101 ∷ 114 ∷ 39 ∷ 58 ∷ 32 ∷ 70 ∷ 97 ∷ 108 ∷ 115 ∷ 101 ∷ 44 ∷ 32 ∷ 39 ∷ 115 ∷ 104 ∷ 97 ∷ 112 ∷ 101 ∷ 39 ∷ 58 ∷ 32 ∷ 40 ∷ 51 ∷ 44 ∷ 32 ∷ 41 ∷ 44 ∷ 32 ∷ 125 ∷ []

-- its layout
abbrev example_layout : Layout
example_layout =
    braces (pair (quote (100 ∷ 101 ∷ 115 ∷ 99 ∷ 114 ∷ [])) 1 (quote (60 ∷ 105 ∷ 52 ∷ [])) 1
    (pair (quote (102 ∷ 111 ∷ 114 ∷ 116 ∷ 114 ∷ 97 ∷ 110 ∷ 95 ∷ 111 ∷ 114 ∷ 100 ∷ 101 ∷ 114 ∷ [])) 1 (word false) 1
    (pair (quote (115 ∷ 104 ∷ 97 ∷ 112 ∷ 101 ∷ [])) 1 (round (number 3) 1 ended) 1 no_more)))

-- `[('a', '<i4'), ('b', '<f8', (2,3,)), ]`
abbrev fields_layout : Layout
fields_layout =
    square (more (round (quote (97 ∷ [])) 1 (last (quote (60 ∷ 105 ∷ 52 ∷ [])))) 1
    (more (round (quote (98 ∷ [])) 1 (more (quote (60 ∷ 102 ∷ 56 ∷ [])) 1 (last (round (number 2) 0 (more (number 3) 0 ended))))) 1 ended))

abbrev pub table : List Example
table =
    -- document 01's 58 characters
    says header (got (value_of example_layout) 58)
    -- ` [-12 , TAB None,] LF`
    ∷ says (32 ∷ 91 ∷ 45 ∷ 49 ∷ 50 ∷ 32 ∷ 44 ∷ 9 ∷ 78 ∷ 111 ∷ 110 ∷ 101 ∷ 44 ∷ 93 ∷ 10 ∷ []) (got (list (value_then (integer true 12) (value_then None end_of_values))) 15)
    -- `"\\\'\"\n\r\t'"`
    ∷ says (34 ∷ 92 ∷ 92 ∷ 92 ∷ 39 ∷ 92 ∷ 34 ∷ 92 ∷ 110 ∷ 92 ∷ 114 ∷ 92 ∷ 116 ∷ 39 ∷ 34 ∷ []) (got (string (92 ∷ 39 ∷ 34 ∷ 10 ∷ 13 ∷ 9 ∷ 39 ∷ [])) 15)
    -- `{(1,):-0}`
    ∷ says (123 ∷ 40 ∷ 49 ∷ 44 ∷ 41 ∷ 58 ∷ 45 ∷ 48 ∷ 125 ∷ []) (got (dict (item_then (tuple (value_then (integer false 1) end_of_values)) (integer true 0) end_of_items)) 9)
    -- `Tru}`
    ∷ says (84 ∷ 114 ∷ 117 ∷ 125 ∷ []) (fault 3)
    -- `True1`
    ∷ says (84 ∷ 114 ∷ 117 ∷ 101 ∷ 49 ∷ []) (fault 4)
    -- `-}`
    ∷ says (45 ∷ 125 ∷ []) (fault 1)
    -- `- 1`
    ∷ says (45 ∷ 32 ∷ 49 ∷ []) (fault 1)
    -- `00`
    ∷ says (48 ∷ 48 ∷ []) (fault 1)
    -- `1a`
    ∷ says (49 ∷ 97 ∷ []) (fault 1)
    -- `1_0`
    ∷ says (49 ∷ 95 ∷ 48 ∷ []) (fault 1)
    -- `'ab`
    ∷ says (39 ∷ 97 ∷ 98 ∷ []) (fault 3)
    -- `'a\x41'`
    ∷ says (39 ∷ 97 ∷ 92 ∷ 120 ∷ 52 ∷ 49 ∷ 39 ∷ []) (fault 3)
    -- `(3)`
    ∷ says (40 ∷ 51 ∷ 41 ∷ []) (fault 2)
    -- `[,]`
    ∷ says (91 ∷ 44 ∷ 93 ∷ []) (fault 1)
    -- `b'a'`
    ∷ says (98 ∷ 39 ∷ 97 ∷ 39 ∷ []) (fault 0)
    -- `'a' 'b'`
    ∷ says (39 ∷ 97 ∷ 39 ∷ 32 ∷ 39 ∷ 98 ∷ 39 ∷ []) (fault 4)
    -- nothing
    ∷ says [] (fault 0)
    -- `[` 32 times, `]` 32 times
    ∷ says (times 32 91 ++ times 32 93) (got (nested 31) 64)
    -- `[` 33 times, then `$`
    ∷ says (times 33 91 ++ 36 ∷ []) (deep 32)
    -- `[` 32 times, then `1 [`: no bracket is possible there
    ∷ says (times 32 91 ++ 49 ∷ 32 ∷ 91 ∷ []) (fault 34)
    -- `[` 31 times, then `(3),[[`
    ∷ says (times 31 91 ++ 40 ∷ 51 ∷ 41 ∷ 44 ∷ 91 ∷ 91 ∷ []) (fault 33)
    ∷ []

-- each of them is so
abbrev pub Holds : List Example → Type 0
Holds [] = Unit {0}
Holds (e ∷ es) = PromiseAt 32 e.text e.outcome × Holds es

abbrev readings : List Example → List (Got ℕ Value)
readings [] = []
readings (e ∷ es) = placed e.text (literal 32 e.text) ∷ readings es

abbrev outcomes : List Example → List (Got ℕ Value)
outcomes [] = []
outcomes (e ∷ es) = e.outcome ∷ outcomes es

first_same : {A : Type 0} {x y : A} {xs ys : List A} → ◌≡◌ {A = List A} (x ∷ xs) (y ∷ ys) → x ≡ y
first_same e = cc

others_same : {A : Type 0} {x y : A} {xs ys : List A} → ◌≡◌ {A = List A} (x ∷ xs) (y ∷ ys) → xs ≡ ys
others_same e = cc

computed : (es : List Example) → readings es ≡ outcomes es → Holds es
computed [] h = tt
computed (e ∷ es) h = (subst (PromiseAt 32 e.text) (first_same h) (kept_at 32 e.text), computed es (others_same h))

pub table_holds : Holds table
unfolding literal alone value kind_of bracketed paired up_to parted quoted ReadsWord natural after_digits skip is_digit digits_of decimal_from is_blank is_quote is_break is_escape unescape
table_holds = computed table refl

-- what layouts print
pub header_printed : print example_layout [] ≡ header
unfolding printed last_digits escape_of
header_printed = refl

-- `[('a', '<i4'), ('b', '<f8', (2,3,)), ]`
pub fields_printed : print fields_layout [] ≡ 91 ∷ 40 ∷ 39 ∷ 97 ∷ 39 ∷ 44 ∷ 32 ∷ 39 ∷ 60 ∷ 105 ∷ 52 ∷ 39 ∷ 41 ∷ 44 ∷ 32 ∷ 40 ∷ 39 ∷ 98 ∷ 39 ∷ 44 ∷ 32 ∷ 39 ∷ 60 ∷ 102 ∷ 56 ∷ 39 ∷ 44 ∷ 32 ∷ 40 ∷ 50 ∷ 44 ∷ 51 ∷ 44 ∷ 41 ∷ 41 ∷ 44 ∷ 32 ∷ 93 ∷ []
unfolding printed last_digits escape_of
fields_printed = refl

-- a name of backslash, `'`, CR, LF and TAB
pub name_printed : print (quote (92 ∷ 39 ∷ 13 ∷ 10 ∷ 9 ∷ [])) [] ≡ 39 ∷ 92 ∷ 92 ∷ 92 ∷ 39 ∷ 92 ∷ 114 ∷ 92 ∷ 110 ∷ 9 ∷ 39 ∷ []
unfolding escape_of
name_printed = refl
