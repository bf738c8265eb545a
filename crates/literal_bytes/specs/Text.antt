-- A text by positions: its bytes and parts, what a byte can begin, and runs and blocks of bytes that pass a test. The classes of bytes are
-- those of literal_grammar/specs/Bytes.antt and of crate decimal.
use Rattle.std.specs.Prelude.{ℕ, suc, ◌+◌, ◌-◌, List, [], ◌∷◌, Bool, true, false, cond, ◌&&◌, length, get_or, take, drop, eqb, leb}
use Rattle.literal_grammar.specs.Bytes.{is_blank, is_quote}
use Rattle.decimal.specs.Decimal.{is_digit}
use Rattle.literal_bytes.specs.declared.ValueKind.{ValueKind}
use Rattle.literal_bytes.specs.declared.ValueKind.TheVariants.{Square, Round, Curly, Quote, Minus, Digit, TrueWord, FalseWord, NoneWord, Other}

-- the byte at a position, or 256, which is no byte, past the end
abbrev pub byte_at : List ℕ → ℕ → ℕ
byte_at s at = get_or s at 256

-- the bytes from one position up to another
abbrev pub part : List ℕ → ℕ → ℕ → List ℕ
part s from end = take (end - from) (drop from s)

-- what a value that begins with the byte is: `[` (91), `(` (40), `{` (123), `-` (45), `T` (84) of `True`, `F` (70) of `False`, `N` (78) of `None`, a quote or a digit
unfoldable pub kind_of : ℕ → ValueKind
kind_of b =
    cond (eqb b 91) Square
    (cond (eqb b 40) Round
    (cond (eqb b 123) Curly
    (cond (eqb b 45) Minus
    (cond (eqb b 84) TrueWord
    (cond (eqb b 70) FalseWord
    (cond (eqb b 78) NoneWord
    (cond (is_quote b) Quote
    (cond (is_digit b) Digit
    Other))))))))

-- the length of the longest run at the front whose bytes pass a test
unfoldable pub run : (ℕ → Bool) → List ℕ → ℕ
run f [] = 0
run f (b ∷ s) = elim (f b) [ true ↦ suc (run f s) | false ↦ 0 ]

-- the first position from `at` on whose byte fails a test, or the end
unfoldable pub past : (ℕ → Bool) → List ℕ → ℕ → ℕ
past f s at = at + run f (drop at s)

-- whether each byte of a list passes a test
unfoldable pub all_pass : (ℕ → Bool) → List ℕ → Bool
all_pass f [] = true
all_pass f (b ∷ s) = f b && all_pass f s

-- whether the text has n bytes from `at` on, and each passes a test
abbrev pub block_at : (ℕ → Bool) → ℕ → List ℕ → ℕ → Bool
block_at f n s at = leb (at + n) (length s) && all_pass f (part s at (at + n))

-- "Blanks are space, tab, LF, CR, allowed around any token": the first position from `at` on that is no blank
abbrev pub skip : List ℕ → ℕ → ℕ
skip s at = past is_blank s at
