-- The classes of bytes in document 01, "The literal". Digits are `is_digit` of crate decimal.
use Rattle.std.specs.Prelude.{ℕ, Bool, ◌||◌, cond, eqb}

-- "Blanks are space, tab, LF, CR": 32, 9, 10, 13
unfoldable pub is_blank : ℕ → Bool
is_blank b = eqb b 32 || eqb b 9 || eqb b 10 || eqb b 13

-- "Strings stand in `'` or `"`": 39 or 34
unfoldable pub is_quote : ℕ → Bool
is_quote b = eqb b 39 || eqb b 34

-- "hold no raw LF or CR": 10, 13
unfoldable pub is_break : ℕ → Bool
is_break b = eqb b 10 || eqb b 13

-- "and know the escapes `\\ \' \" \n \r \t` only": the byte after the backslash is one of `\` (92), `'` (39), `"` (34), `n` (110), `r` (114), `t` (116)
unfoldable pub is_escape : ℕ → Bool
is_escape b = eqb b 92 || eqb b 39 || eqb b 34 || eqb b 110 || eqb b 114 || eqb b 116

-- the byte that an escape means: LF for `n`, CR for `r`, TAB for `t`, otherwise the byte after the backslash itself
unfoldable pub unescape : ℕ → ℕ
unescape b = cond (eqb b 110) 10 (cond (eqb b 114) 13 (cond (eqb b 116) 9 b))

-- an opening bracket: `[` (91), `(` (40) or `{` (123)
unfoldable pub is_open : ℕ → Bool
is_open b = eqb b 91 || eqb b 40 || eqb b 123
