-- Document 01, "String elements": "Each four bytes give a Unicode scalar value or refusal 29". The Unicode Standard, D76: a scalar value is any code
-- point except the surrogates, so 0 to D7FF and E000 to 10FFFF.
use Rattle.std.specs.Prelude.{ℕ, Bool, true, ◌&&◌, ◌||◌, List, [], ◌∷◌, leb}

-- whether a number is a scalar value
unfoldable pub is_scalar : ℕ → Bool
is_scalar c = leb c 0xD7FF || leb 0xE000 c && leb c 0x10FFFF

-- whether each number of a list is a scalar value
abbrev pub all_scalars : List ℕ → Bool
all_scalars [] = true
all_scalars (c ∷ cs) = is_scalar c && all_scalars cs
