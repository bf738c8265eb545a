-- Document 01, "The record": "Type string: byte order `<`, `>` or `|`; a letter of `b i u f c m M S U O V` (N)". Two tables: the byte of each order and of each letter,
-- both in the document's order; and the letters with rules of their own: "absent for `O` and needed otherwise", "4 times it for U"; "String elements": S, U and V.
use Rattle.std.specs.Prelude.{ℕ, List, [], ◌∷◌, Bool, cond, eqb}
use Rattle.counts.specs.Outcome.{Outcome, gives, refused}
use Rattle.type_letters.specs.declared.Endianness.{Endianness}
use Rattle.type_letters.specs.declared.Endianness.TheVariants.{Little, Big, Irrelevant}
use Rattle.type_letters.specs.declared.TypeChar.{TypeChar}
use Rattle.type_letters.specs.declared.TypeChar.TheVariants.{Bool as Boolean, Int, Uint, Float as Floating, Complex, TimeDelta, DateTime, ByteStr, UnicodeStr, Object, RawData}

-- the first entry of a table that passes a test, or 15, "type string: syntax": for the tables here, and the units of type_units
abbrev pub first_of : {A : Type 0} → (A → Bool) → List A → Outcome A
first_of test [] = refused 15
first_of test (a ∷ more) = cond (test a) (gives a) (first_of test more)

-- the byte of each order: `<`, `>`, `|`
abbrev pub order_byte : Endianness → ℕ
order_byte Little = 60
order_byte Big = 62
order_byte Irrelevant = 124

-- all byte orders, in the document's order
abbrev pub orders : List Endianness
orders = Little ∷ Big ∷ Irrelevant ∷ []

-- the byte order of a byte, or 15
unfoldable pub order_of : ℕ → Outcome Endianness
order_of b = first_of (λ o. eqb b (order_byte o)) orders

-- the byte of each letter: `b i u f c m M S U O V`
abbrev pub letter_byte : TypeChar → ℕ
letter_byte Boolean = 98
letter_byte Int = 105
letter_byte Uint = 117
letter_byte Floating = 102
letter_byte Complex = 99
letter_byte TimeDelta = 109
letter_byte DateTime = 77
letter_byte ByteStr = 83
letter_byte UnicodeStr = 85
letter_byte Object = 79
letter_byte RawData = 86

-- all letters, in the document's order
abbrev pub letters : List TypeChar
letters = Boolean ∷ Int ∷ Uint ∷ Floating ∷ Complex ∷ TimeDelta ∷ DateTime ∷ ByteStr ∷ UnicodeStr ∷ Object ∷ RawData ∷ []

-- the letter of a byte, or 15
unfoldable pub letter_of : ℕ → Outcome TypeChar
letter_of b = first_of (λ l. eqb b (letter_byte l)) letters

-- whether the letter is `O` (79; 85 is `U`, 83 `S`, 86 `V`)
abbrev pub is_object : TypeChar → Bool
is_object l = eqb (letter_byte l) 79

-- whether the letter is `U`
abbrev pub is_unicode : TypeChar → Bool
is_unicode l = eqb (letter_byte l) 85

-- whether the letter is `S`
abbrev pub is_bytes : TypeChar → Bool
is_bytes l = eqb (letter_byte l) 83

-- whether the letter is `V`
abbrev pub is_raw : TypeChar → Bool
is_raw l = eqb (letter_byte l) 86

-- `O` and `U` by the byte, for the letters of entries that are read from a table
abbrev pub is_object_byte : ℕ → Bool
is_object_byte b = eqb b 79

abbrev pub is_unicode_byte : ℕ → Bool
is_unicode_byte b = eqb b 85
