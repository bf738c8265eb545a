-- Document 01, "The record": "Sizes: b 1; i, u 1 2 4 8; f 2 4 8 16; c 8 16 32; m, M 8; others any. `|` is refused for U, and for b i u f c m M when the size is
-- not 1. Units stand exactly on m and M."
use Rattle.std.specs.Prelude.{ℕ, Bool, true, false, not, ◌||◌, ◌&&◌, List, [], ◌∷◌, eqb}
use Rattle.type_letters.specs.Letters.{letter_byte, is_unicode}
use Rattle.type_letters.specs.declared.Endianness.{Endianness}
use Rattle.type_letters.specs.declared.Endianness.TheVariants.{Little, Big, Irrelevant}
use Rattle.type_letters.specs.declared.TypeChar.{TypeChar}
use Rattle.type_letters.specs.declared.TypeChar.TheVariants.{Bool as Boolean, Int, Uint, Float as Floating, Complex, TimeDelta, DateTime, ByteStr, UnicodeStr, Object, RawData}

-- whether a letter is one of those with these bytes
abbrev pub among : List ℕ → TypeChar → Bool
among [] l = false
among (b ∷ bs) l = eqb (letter_byte l) b || among bs l

-- "`|` is refused for U, and for b i u f c m M when the size is not 1"
abbrev pub needs_order : TypeChar → ℕ → Bool
needs_order l n = is_unicode l || (among (98 ∷ 105 ∷ 117 ∷ 102 ∷ 99 ∷ 109 ∷ 77 ∷ []) l && not (eqb n 1))

abbrev pub is_irrelevant : Endianness → Bool
is_irrelevant Little = false
is_irrelevant Big = false
is_irrelevant Irrelevant = true

-- "b 1; i, u 1 2 4 8; f 2 4 8 16; c 8 16 32; m, M 8; others any"
abbrev pub allows : TypeChar → ℕ → Bool
allows Boolean n = eqb n 1
allows Int n = eqb n 1 || eqb n 2 || eqb n 4 || eqb n 8
allows Uint n = eqb n 1 || eqb n 2 || eqb n 4 || eqb n 8
allows Floating n = eqb n 2 || eqb n 4 || eqb n 8 || eqb n 16
allows Complex n = eqb n 8 || eqb n 16 || eqb n 32
allows TimeDelta n = eqb n 8
allows DateTime n = eqb n 8
allows ByteStr n = true
allows UnicodeStr n = true
allows Object n = true
allows RawData n = true

-- "Units stand exactly on m and M"
abbrev pub has_units : TypeChar → Bool
has_units l = among (109 ∷ 77 ∷ []) l
