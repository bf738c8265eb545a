-- The arm `_` of a match on a letter: a test that fails at every case not listed by another arm fails there.
use Prim.Native.Nat.{ℕ}
use mathlib.Core.Path.{◌≡◌, refl, ap, ◌∙◌}
use mathlib.Core.Bool.{Bool, false}
use mathlib.Core.List.{List}
use lib.ListN.{get_or}
use types.Run.{OneOf}
use denote.Enum.Declared.{tag_of}
use Rattle.type_letters.specs.Letters.{letters}
use Rattle.type_letters.specs.declared.TypeChar.{TypeChar}
use Rattle.type_letters.specs.declared.TypeChar.TheVariants.{Bool as Boolean, Int, Uint, Float as Floating, Complex, TimeDelta, DateTime, ByteStr, UnicodeStr, Object, RawData}
use Rattle.counts.proofs.Keys.{any, no_key}
use Rattle.type_letters.specs.contracts.TypeChar as TypeChar·type

letter_at : (l : TypeChar) → get_or letters (tag_of TypeChar·type.the_type l) Object ≡ l
letter_at Boolean = refl
letter_at Int = refl
letter_at Uint = refl
letter_at Floating = refl
letter_at Complex = refl
letter_at TimeDelta = refl
letter_at DateTime = refl
letter_at ByteStr = refl
letter_at UnicodeStr = refl
letter_at Object = refl
letter_at RawData = refl

pub no_letter : (test : TypeChar → Bool) (l : TypeChar) (ks : List ℕ) → OneOf ks (tag_of TypeChar·type.the_type l) → any (λ k. test (get_or letters k Object)) ks ≡ false → false ≡ test l
no_letter test l ks o h = no_key (λ k. test (get_or letters k Object)) ks (tag_of TypeChar·type.the_type l) o h ∙ ap test (letter_at l)
