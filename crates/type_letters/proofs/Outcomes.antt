-- No second outcome satisfies a statement of this crate's public functions. Each result can be recovered from its outcome.
use Rattle.std.specs.Prelude.{None, Some, Option}
use Prim.Native.Nat.{ℕ}
use mathlib.Core.Path.{◌≡◌, refl}
use Rattle.counts.specs.Outcome.{Outcome, gives, refused}
use Rattle.counts.specs.OneOutcome.{OneOutcome}
use Rattle.counts.proofs.OneOutcome.{by_equation, by_inverse}
use Rattle.type_letters.specs.Letters.{order_byte, order_of, letter_byte, letter_of, is_object, is_unicode}
use Rattle.type_letters.specs.Answer.{order_answer, letter_answer}
use Rattle.type_letters.specs.declared.Endianness.{Endianness}
use mathlib.Core.Bool.{Bool}
use Rattle.type_letters.specs.declared.TypeChar.{TypeChar}

-- ---- the result with a given outcome
order_back : Outcome Endianness → Option Endianness
order_back (gives o) = Some o
order_back (refused n) = None

order_same : (r : Option Endianness) → order_back (order_answer r) ≡ r
unfolding order_back
order_same (Some o) = refl
order_same None = refl

-- ---- one outcome
pub endianness_from_byte_one : (b : ℕ) → OneOutcome (λ r. order_answer r ≡ order_of b)
endianness_from_byte_one b = by_inverse order_answer order_back order_same (order_of b)

pub endianness_to_byte_one : (o : Endianness) → OneOutcome {A = ℕ} (λ r. r ≡ order_byte o)
endianness_to_byte_one o = by_equation (order_byte o)

-- ---- the result with a given outcome
letter_back : Outcome TypeChar → Option TypeChar
letter_back (gives l) = Some l
letter_back (refused n) = None

letter_same : (r : Option TypeChar) → letter_back (letter_answer r) ≡ r
unfolding letter_back
letter_same (Some l) = refl
letter_same None = refl

-- ---- one outcome
pub type_char_from_byte_one : (b : ℕ) → OneOutcome (λ r. letter_answer r ≡ letter_of b)
type_char_from_byte_one b = by_inverse letter_answer letter_back letter_same (letter_of b)

pub type_char_to_byte_one : (l : TypeChar) → OneOutcome {A = ℕ} (λ r. r ≡ letter_byte l)
type_char_to_byte_one l = by_equation (letter_byte l)

pub is_object_one : (l : TypeChar) → OneOutcome {A = Bool} (λ r. r ≡ is_object l)
is_object_one l = by_equation (is_object l)

pub is_unicode_one : (l : TypeChar) → OneOutcome {A = Bool} (λ r. r ≡ is_unicode l)
is_unicode_one l = by_equation (is_unicode l)
