-- No second outcome satisfies a statement of this crate's public functions.
use Prim.Native.Nat.{ℕ}
use mathlib.Core.Path.{◌≡◌}
use mathlib.Core.List.{List}
use mathlib.Core.Bool.{Bool}
use Rattle.counts.specs.OneOutcome.{OneOutcome}
use Rattle.counts.proofs.OneOutcome.{by_equation}
use Rattle.literal_grammar.specs.Bytes.{is_quote}
use Rattle.literal_bytes.specs.Text.{byte_at, kind_of, past, skip}
use Rattle.literal_bytes.specs.declared.ValueKind.{ValueKind}
use Rattle.literal_bytes.specs.declared.Parsed.{Parsed}
use Rattle.literal_bytes.specs.Gaps.{gap_at, then_at, need_at, colon_at, ended_at}
use Rattle.literal_bytes.specs.declared.Gap.{Gap}

pub peek_one : (text : List ℕ) (at : ℕ) → OneOutcome {A = ℕ} (λ r. r ≡ byte_at text at)
peek_one text at = by_equation (byte_at text at)

-- is_blank, is_digit, is_open and is_break: a class of bytes
pub class_one : (class : ℕ → Bool) (b : ℕ) → OneOutcome {A = Bool} (λ r. r ≡ class b)
class_one class b = by_equation (class b)

pub quote_at_one : (text : List ℕ) (at : ℕ) → OneOutcome {A = Bool} (λ r. r ≡ is_quote (byte_at text at))
quote_at_one text at = by_equation (is_quote (byte_at text at))

pub kind_at_one : (text : List ℕ) (at : ℕ) → OneOutcome {A = ValueKind} (λ r. r ≡ kind_of (byte_at text at))
kind_at_one text at = by_equation (kind_of (byte_at text at))

pub past_one : (test : ℕ → Bool) (text : List ℕ) (from : ℕ) → OneOutcome {A = ℕ} (λ r. r ≡ past test text from)
past_one test text from = by_equation (past test text from)

pub past_far_one : (test : ℕ → Bool) (text : List ℕ) (from : ℕ) → OneOutcome {A = ℕ} (λ r. r ≡ past test text from)
past_far_one test text from = past_one test text from

pub blanks_one : (text : List ℕ) (from : ℕ) → OneOutcome {A = ℕ} (λ r. r ≡ skip text from)
blanks_one text from = by_equation (skip text from)

pub gap_at_one : (text : List ℕ) (at close : ℕ) → OneOutcome {A = Gap} (λ r. r ≡ gap_at text at close)
gap_at_one text at close = by_equation (gap_at text at close)

pub then_at_one : (text : List ℕ) (at close : ℕ) → OneOutcome {A = Gap} (λ r. r ≡ then_at text at close)
then_at_one text at close = by_equation (then_at text at close)

pub need_one : (text : List ℕ) (at b : ℕ) → OneOutcome {A = Parsed} (λ r. r ≡ need_at text at b)
need_one text at b = by_equation (need_at text at b)

pub colon_at_one : (text : List ℕ) (at : ℕ) → OneOutcome {A = Parsed} (λ r. r ≡ colon_at text at)
colon_at_one text at = by_equation (colon_at text at)

pub ended_one : (g : Gap) → OneOutcome {A = Parsed} (λ r. r ≡ ended_at g)
ended_one g = by_equation (ended_at g)

pub same_one : (r : Parsed) → OneOutcome {A = Parsed} (λ x. x ≡ r)
same_one r = by_equation r
