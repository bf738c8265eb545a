-- Document 01, "The literal": "Strings stand in `'` or `"`, hold no raw LF or CR, and know the escapes `\\ \' \" \n \r \t` only." The bytes of a string that
-- are copied as they are.
use Rattle.std.specs.Prelude.{ℕ, Bool, ◌||◌, not, eqb}
use Rattle.literal_grammar.specs.Bytes.{is_break}

-- a plain byte of a string in quotes q: not the quote, LF, CR or a backslash (92)
unfoldable pub is_plain : ℕ → ℕ → Bool
is_plain q b = not (eqb b q || is_break b || eqb b 92)
