-- Document 01, "The literal": "Integers are an optional `-`, then `0` or a nonzero digit with more digits. Words are longest runs of ASCII letters,
-- digits, underscore. Strings stand in `'` or `"`". The values without brackets; the bytes of a string are literal_escapes/specs/Strings.antt. In a valid text no two words
-- are adjacent, so a word is a fault at the first byte where it differs from the known one.
use Rattle.std.specs.Prelude.{ℕ, ◌+◌, List, [], ◌∷◌, true, false, eqb, Option}
use Rattle.counts.specs.Number.{number}
use Rattle.decimal.specs.Decimal.{is_digit, decimal}
use Rattle.literal_tokens.specs.Node.{Node, span, string, integer, True, False, None}
use Rattle.literal_bytes.specs.Got.{Got, fault, with, giving}
use Rattle.literal_bytes.specs.Text.{byte_at, part, kind_of, past}
use Rattle.literal_escapes.specs.Strings.{string_at}
use Rattle.literal_bytes.specs.declared.Parsed.{Parsed}
use Rattle.literal_bytes.specs.declared.Parsed.TheVariants.{Value, Fault, Deep}
use Rattle.literal_tokens.specs.declared.Numeral.{Numeral}
use Rattle.literal_bytes.specs.declared.ValueKind.TheVariants.{Square, Round, Curly, Quote, Minus, Digit, TrueWord, FalseWord, NoneWord, Other}

-- "`0` or a nonzero digit with more digits" (48 is `0`)
unfoldable pub natural_at : List ℕ → ℕ → Parsed
natural_at s at = elim (eqb (byte_at s at) 48) [
  | true ↦ Value (at + 1)
  | false ↦ elim (is_digit (byte_at s at)) [ true ↦ Value (past is_digit s (at + 1)) | false ↦ Fault at ]
]

-- the number that the digits from `at` up to their end write, or `None` over 2^64-1; `None` too where there are none
abbrev pub number_of_numeral : List ℕ → ℕ → Parsed → Option ℕ
number_of_numeral s at (Value e) = number (decimal (part s at e))
number_of_numeral s at (Fault p) = Option.None
number_of_numeral s at (Deep p) = Option.None

-- where the digits at a position end, and their number
abbrev pub numeral_at : List ℕ → ℕ → Numeral
numeral_at s at = record { ended = natural_at s at; number = number_of_numeral s at (natural_at s at) }

-- a given word: the position after it, or a fault at the first byte that differs
unfoldable pub word_at : List ℕ → List ℕ → ℕ → Parsed
word_at [] s at = Value at
word_at (c ∷ w) s at = elim (eqb (byte_at s at) c) [ true ↦ word_at w s (at + 1) | false ↦ Fault at ]

-- the bytes of `True`
abbrev pub word_true : List ℕ
word_true = 84 ∷ 114 ∷ 117 ∷ 101 ∷ []

-- the bytes of `False`
abbrev pub word_false : List ℕ
word_false = 70 ∷ 97 ∷ 108 ∷ 115 ∷ 101 ∷ []

-- the bytes of `None`
abbrev pub word_none : List ℕ
word_none = 78 ∷ 111 ∷ 110 ∷ 101 ∷ []

-- the value without brackets at a position, or a fault where none begins
unfoldable pub token_at : List ℕ → ℕ → Got Node
token_at s at = elim (kind_of (byte_at s at)) [
  | Quote ↦ with (λ e. string (span at e)) (string_at (byte_at s at) s (at + 1))
  | Minus ↦ giving (λ e. integer (span at e) true (decimal (part s (at + 1) e))) (natural_at s (at + 1))
  | Digit ↦ giving (λ e. integer (span at e) false (decimal (part s at e))) (natural_at s at)
  | TrueWord ↦ giving (λ e. True (span at e)) (word_at word_true s at)
  | FalseWord ↦ giving (λ e. False (span at e)) (word_at word_false s at)
  | NoneWord ↦ giving (λ e. None (span at e)) (word_at word_none s at)
  | Square ↦ fault at
  | Round ↦ fault at
  | Curly ↦ fault at
  | Other ↦ fault at
]
