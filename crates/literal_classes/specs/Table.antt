-- Document 02, "Wish 8": "a 256-entry table giving each byte's class". The table: sixteen rows of sixteen bytes. A row is a number whose sixteen hexadecimal digits are the
-- classes of its bytes, from left to right. That it has the classes of Classes.antt at every byte is `table_right` (proofs/Table.antt).
use Rattle.std.specs.Prelude.{ℕ, ◌*◌, ◌-◌, ◌/◌, ◌%◌, ◌^◌, List, [], ◌∷◌, get_or}

-- sixteen bytes of the class `other`
abbrev pub other_row : ℕ
other_row = 0x9999999999999999

unfoldable pub rows : List ℕ
rows =
    -- 00: TAB, LF and CR are blanks
    0x9999999990099099 ∷
    -- 10
    other_row ∷
    -- 20: the space, `"`, `'`, `(`, `)`, the comma, `-`
    0x0939999344996599 ∷
    -- 30: the digits, the colon
    0x1111111111799999 ∷
    -- 40, 50: the capitals, `[`, the backslash, `]`, the underscore
    0x9222222222222222 ∷
    0x2222222222248492 ∷
    -- 60, 70: the small letters, `{`, `}`
    0x9222222222222222 ∷
    0x2222222222249499 ∷
    -- 80 to F0
    other_row ∷
    other_row ∷
    other_row ∷
    other_row ∷
    other_row ∷
    other_row ∷
    other_row ∷
    other_row ∷
    []

-- a row by its number; past the last one `other_row`, where no byte is
abbrev pub row_of : ℕ → ℕ
row_of r = get_or rows r other_row

-- the entry of a byte: its digit in its row, where a digit is four bits
unfoldable pub class_entry : ℕ → ℕ
class_entry b = row_of (b / 16) / 2 ^ ((15 - b % 16) * 4) % 16
