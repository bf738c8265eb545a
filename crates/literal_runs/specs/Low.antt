-- A superset of the bytes that end a run of plain bytes (literal_bytes/specs/Plain.antt), tested with one comparison. 40 is `(`, 92 the backslash.
use Rattle.std.specs.Prelude.{ℕ, Bool, ◌||◌, not, eqb, ltb}

-- a byte below `(`, which both quotes, LF and CR are, or a backslash
unfoldable pub is_low : ℕ → Bool
is_low b = ltb b 40 || eqb b 92

-- any other byte: plain in a string in `'` or `"`
abbrev pub is_high : ℕ → Bool
is_high b = not (is_low b)
