-- Document 01, "From first byte to text": "The text must be UTF-8 in every version." UTF-8 is the Unicode Standard's, D92: each scalar value has
-- one encoding, of one to four bytes, by Table 3-6. Which texts are UTF-8 is defined in utf8/specs/Utf8.antt.
use Rattle.std.specs.Prelude.{ℕ, ◌+◌, ◌/◌, ◌%◌, cond, List, [], ◌∷◌, ltb}

-- Table 3-6, a row a line: the value's bits in groups of six from the lowest, each prefixed by 10, and the first byte prefixed by 0, 110, 1110 or 11110
unfoldable pub encode : ℕ → List ℕ
encode c =
    cond (ltb c 0x80) (c ∷ [])
    (cond (ltb c 0x800) ((0xC0 + c / 0x40) ∷ (0x80 + c % 0x40) ∷ [])
    (cond (ltb c 0x10000) ((0xE0 + c / 0x1000) ∷ (0x80 + c / 0x40 % 0x40) ∷ (0x80 + c % 0x40) ∷ [])
    ((0xF0 + c / 0x40000) ∷ (0x80 + c / 0x1000 % 0x40) ∷ (0x80 + c / 0x40 % 0x40) ∷ (0x80 + c % 0x40) ∷ [])))
