-- What `from_byte` returns, for byte orders and for letters: the value, or document 01's number. No two results have the same outcome (proofs/Outcomes.antt), so an
-- equation on the outcome fixes the result.
use Rattle.std.specs.Prelude.{None, Some, Option}
use Rattle.counts.specs.Outcome.{Outcome, gives, refused}
use Rattle.type_letters.specs.declared.Endianness.{Endianness}
use Rattle.type_letters.specs.declared.TypeChar.{TypeChar}

-- a byte order, or 15
abbrev pub order_answer : Option Endianness → Outcome Endianness
order_answer (Some o) = gives o
order_answer None = refused 15

-- a letter, or 15
abbrev pub letter_answer : Option TypeChar → Outcome TypeChar
letter_answer (Some l) = gives l
letter_answer None = refused 15
