-- No second outcome satisfies a statement of this crate's public functions.
use Prim.Native.Nat.{ℕ}
use mathlib.Core.Path.{◌≡◌}
use mathlib.Core.List.{List}
use Rattle.counts.specs.OneOutcome.{OneOutcome}
use Rattle.counts.proofs.OneOutcome.{by_equation}
use Rattle.literal_bytes.specs.Got.{pos}
use Rattle.literal_bytes.specs.declared.Parsed.{Parsed}
use Rattle.literal_escapes.specs.Strings.{spelled, scanned}
use Rattle.literal_escapes.specs.declared.Scan.{Scan}
use Rattle.literal_tokens.specs.Tokens.{numeral_at, token_at}
use Rattle.literal_tokens.specs.declared.Numeral.{Numeral}

pub numeral_at_one : (text : List ℕ) (at : ℕ) → OneOutcome {A = Numeral} (λ r. r ≡ numeral_at text at)
numeral_at_one text at = by_equation (numeral_at text at)

pub token_one : (text : List ℕ) (at : ℕ) → OneOutcome {A = Parsed} (λ r. r ≡ pos (token_at text at))
token_one text at = by_equation (pos (token_at text at))

pub scan_at_one : (text : List ℕ) (from quote : ℕ) → OneOutcome {A = Scan} (λ r. r ≡ scanned (spelled quote text from))
scan_at_one text from quote = by_equation (scanned (spelled quote text from))
