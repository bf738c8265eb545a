-- Document 01, "The literal": "Strings stand in `'` or `"`, hold no raw LF or CR, and know the escapes `\\ \' \" \n \r \t` only." The text after an opening quote, piece by
-- piece: a piece is a byte that means itself, an escape, or the closing quote. 92 is the backslash.
use Rattle.std.specs.Prelude.{ℕ, zero, suc, ◌+◌, List, [], ◌∷◌, Bool, false, ◌||◌, ◌&&◌, not, cond, length, eqb, ltb}
use Rattle.literal_grammar.specs.Bytes.{is_break, is_escape, unescape}
use Rattle.literal_bytes.specs.Got.{Got, giving}
use Rattle.literal_bytes.specs.Text.{byte_at}
use Rattle.literal_bytes.specs.declared.Parsed.{Parsed}
use Rattle.literal_bytes.specs.declared.Parsed.TheVariants.{Value, Fault}
use Rattle.literal_escapes.specs.declared.Piece.{Piece}
use Rattle.literal_escapes.specs.declared.Piece.TheVariants.{Close, Byte, Bad}
use Rattle.literal_escapes.specs.declared.Scan.{Scan}

-- after a backslash: the byte that the escape means, and the position after it; or a fault
unfoldable pub escape_at : List ℕ → ℕ → Piece
escape_at s at = cond (is_escape (byte_at s at)) (Byte (unescape (byte_at s at)) (at + 1)) (Bad at)

-- whether an escape is at a position in quotes q: a backslash that is not the quote, and a byte that may follow it
unfoldable pub escape_here : ℕ → List ℕ → ℕ → Bool
escape_here q s at = not (eqb q 92) && eqb (byte_at s at) 92 && is_escape (byte_at s (at + 1))

-- one piece inside the text, in quotes q: the closing quote, a fault at LF or CR, an escape, or a byte that means itself
abbrev pub piece_by : ℕ → List ℕ → ℕ → Piece
piece_by q s at = cond (eqb (byte_at s at) q) (Close (at + 1)) (cond (is_break (byte_at s at)) (Bad at) (cond (eqb (byte_at s at) 92) (escape_at s (at + 1)) (Byte (byte_at s at) (at + 1))))

-- the piece at a position; the end of the text is a fault
unfoldable pub piece_at : ℕ → List ℕ → ℕ → Piece
piece_at q s at = cond (ltb at (length s)) (piece_by q s at) (Bad at)

-- how a string ends at its last piece
abbrev pub end_by : Piece → Parsed
end_by (Close e) = Value e
end_by (Byte b e) = Value e
end_by (Bad e) = Fault e

-- a string as read: the bytes that its pieces mean, whether one of them is an escape, and how it ended
pub record Spelled : Type 0 where
  pub bytes : List ℕ
  pub escape : Bool
  pub ended : Parsed

-- a string that ends at once
abbrev pub ends : Parsed → Spelled
ends r = record { bytes = []; escape = false; ended = r }

-- one more piece in front: its byte, and whether it is an escape
abbrev pub heard : ℕ → Bool → Spelled → Spelled
heard b e r = record { bytes = b ∷ r.bytes; escape = e || r.escape; ended = r.ended }

-- the pieces from a position on, at most m of them with the closing quote
unfoldable pub pieces : ℕ → ℕ → List ℕ → ℕ → Spelled
pieces zero q s at = ends (Fault at)
pieces (suc m) q s at = elim (piece_at q s at) [
  | Close e ↦ ends (Value e)
  | Byte b e ↦ heard b (eqb (byte_at s at) 92) (pieces m q s e)
  | Bad e ↦ ends (Fault e)
]

-- the string after the opening quote q; a text has no more pieces than bytes
unfoldable pub spelled : ℕ → List ℕ → ℕ → Spelled
spelled q s at = pieces (length s + 1) q s at

-- its bytes and its end, or its fault
abbrev pub string_at : ℕ → List ℕ → ℕ → Got (List ℕ)
string_at q s at = giving (λ e. (spelled q s at).bytes) (spelled q s at).ended

-- what the code returns for it: how it ended, how many bytes it has decoded, and whether it has an escape
abbrev pub scanned : Spelled → Scan
scanned r = record { ended = r.ended; len = length r.bytes; escape = r.escape }
