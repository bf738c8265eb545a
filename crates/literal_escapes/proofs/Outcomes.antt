-- No second outcome satisfies a statement of this crate's public functions.
use Prim.Native.Nat.{ℕ}
use mathlib.Core.Path.{◌≡◌}
use mathlib.Core.List.{List}
use mathlib.Core.Bool.{Bool}
use Rattle.counts.specs.OneOutcome.{OneOutcome}
use Rattle.counts.proofs.OneOutcome.{by_equation}
use Rattle.literal_grammar.specs.Bytes.{unescape}
use Rattle.literal_escapes.specs.Strings.{escape_here, piece_at}
use Rattle.literal_escapes.specs.declared.Piece.{Piece}

pub piece_at_one : (text : List ℕ) (at quote : ℕ) → OneOutcome {A = Piece} (λ r. r ≡ piece_at quote text at)
piece_at_one text at quote = by_equation (piece_at quote text at)

pub escape_here_one : (text : List ℕ) (at quote : ℕ) → OneOutcome {A = Bool} (λ r. r ≡ escape_here quote text at)
escape_here_one text at quote = by_equation (escape_here quote text at)

pub unescape_one : (b : ℕ) → OneOutcome {A = ℕ} (λ r. r ≡ unescape b)
unescape_one b = by_equation (unescape b)
