-- Document 02, "Wish 8": "a 256-entry table giving each byte's class: blank, digit, word letter, quote, bracket, sign, comma, colon, backslash, other." The class of a byte by
-- comparisons; the table is Table.antt. The comparisons are those of document 01, "The literal", for blanks, digits and quotes. No byte is in two of the first nine classes.
use Rattle.std.specs.Prelude.{ℕ, Bool, ◌||◌, ◌&&◌, cond, eqb, leb}
use Rattle.decimal.specs.Decimal.{is_digit}
use Rattle.literal_grammar.specs.Bytes.{is_blank, is_quote, is_open}

-- "Words are longest runs of ASCII letters, digits, underscore": from `A` (65) to `Z` (90), from `a` (97) to `z` (122), or `_` (95). Digits are a class of their own
unfoldable pub is_word_letter : ℕ → Bool
is_word_letter b = leb 65 b && leb b 90 || leb 97 b && leb b 122 || eqb b 95

-- `[`, `(`, `{`, and those that close them: `]` (93), `)` (41) and `}` (125)
unfoldable pub is_bracket : ℕ → Bool
is_bracket b = is_open b || eqb b 93 || eqb b 41 || eqb b 125

-- a class is its place in the request's list, from 0 on. The sign is `-` (45), the only one that document 01 has; 44 is the comma, 58 the colon, 92 the backslash
unfoldable pub class_of : ℕ → ℕ
class_of b =
    cond (is_blank b) 0
    (cond (is_digit b) 1
    (cond (is_word_letter b) 2
    (cond (is_quote b) 3
    (cond (is_bracket b) 4
    (cond (eqb b 45) 5
    (cond (eqb b 44) 6
    (cond (eqb b 58) 7
    (cond (eqb b 92) 8
    9))))))))
