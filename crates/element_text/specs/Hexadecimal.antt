-- Hexadecimal digits, as the text of an element has them: lower case, and as many as are asked for. Each text comes before whatever follows.
use Rattle.std.specs.Prelude.{ℕ, zero, suc, ◌+◌, ◌/◌, ◌%◌, cond, List, ◌∷◌, ltb}

-- the digit of a number below 16: `0` is 48, `a` is 97
abbrev pub hex_digit : ℕ → ℕ
hex_digit d = cond (ltb d 10) (48 + d) (87 + d)

-- the last k digits of n, with leading zeros, followed by the text x
unfoldable pub hex_digits : (k n : ℕ) → List ℕ → List ℕ
hex_digits zero n x = x
hex_digits (suc k) n x = hex_digits k (n / 16) (hex_digit (n % 16) ∷ x)
