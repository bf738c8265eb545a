-- The table, read both ways.
use Prim.Native.Nat.{ℕ}
use mathlib.Core.Path.{◌≡◌, refl}
use mathlib.Core.Bool.{true}
use lib.Dec.{eqb}
use borrow.Author.Tests.{eqb-true}
use Rattle.counts.specs.Outcome.{Outcome, gives, refused}
use Rattle.counts.proofs.Holds.{Holds}
use Rattle.type_letters.proofs.Tables.{first_passes}
use Rattle.type_letters.specs.Letters.{letter_byte, letters, letter_of}
use Rattle.type_letters.specs.declared.TypeChar.{TypeChar}
use Rattle.type_letters.specs.declared.TypeChar.TheVariants.{Bool as Boolean, Int, Uint, Float as Floating, Complex, TimeDelta, DateTime, ByteStr, UnicodeStr, Object, RawData}

-- ---- each spelling is read as its case
pub letter_spelled : (l : TypeChar) → letter_of (letter_byte l) ≡ gives l
unfolding letter_of
letter_spelled Boolean = refl
letter_spelled Int = refl
letter_spelled Uint = refl
letter_spelled Floating = refl
letter_spelled Complex = refl
letter_spelled TimeDelta = refl
letter_spelled DateTime = refl
letter_spelled ByteStr = refl
letter_spelled UnicodeStr = refl
letter_spelled Object = refl
letter_spelled RawData = refl

-- ---- and only its spelling
pub letter_read : (b : ℕ) → Holds (λ l. b ≡ letter_byte l) (letter_of b)
unfolding letter_of
letter_read b = go (letter_of b) (first_passes (λ l. eqb b (letter_byte l)) letters)
  where
    go : (l : Outcome TypeChar) → Holds (λ l. eqb b (letter_byte l) ≡ true) l → Holds (λ l. b ≡ letter_byte l) l
    go (gives l) h = eqb-true b (letter_byte l) h
    go (refused n) h = tt
