-- Digits in blocks: what the functions of this crate that are not public return. No contract of a public function names these.
use Rattle.std.specs.Prelude.{ℕ, ◌+◌, ◌*◌, ◌-◌, List, [], ◌∷◌, Bool, true, ◌&&◌, length, drop, None, Some, Option}
use Rattle.counts.specs.Number.{number}
use Rattle.decimal.specs.Decimal.{is_digit, digits_of}
use Rattle.decimal.specs.Read.{with_digit}
use Rattle.decimal.specs.declared.Digits.{Digits}

-- whether each byte is a digit
unfoldable pub all_digits : List ℕ → Bool
all_digits [] = true
all_digits (b ∷ s) = is_digit b && all_digits s

-- a number with digits appended that write b, where so many digits write the numbers below `numbers`: 10 for one digit, 10^8 for eight
unfoldable pub with_block : Option ℕ → ℕ → ℕ → Option ℕ
with_block (Some n) numbers b = number (numbers * n + b)
with_block None numbers b = None

-- a number with digits appended one after the other
unfoldable pub appended : Option ℕ → List ℕ → Option ℕ
appended x [] = x
appended x (d ∷ ds) = appended (with_digit x (d - 48)) ds

-- what is read in all where the digits before a position write x: how many digits, and their number
unfoldable pub read_on : List ℕ → ℕ → Option ℕ → Digits
read_on text from x = record { count = from + length (digits_of (drop from text)); number = appended x (digits_of (drop from text)) }
