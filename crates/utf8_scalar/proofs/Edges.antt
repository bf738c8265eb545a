-- Both sides of each edge of an encoding, computed: the first and the last value of each row of Table 3-6 and around the surrogates.
use mathlib.Core.Path.{◌≡◌, refl}
use mathlib.Core.List.{[], ◌∷◌}
use Rattle.utf8_scalar.specs.Encode.{encode}

pub record Edges : Type 0 where
  pub one_last : encode 0x7F ≡ 0x7F ∷ []
  pub two_first : encode 0x80 ≡ 0xC2 ∷ 0x80 ∷ []
  pub two_last : encode 0x7FF ≡ 0xDF ∷ 0xBF ∷ []
  pub three_first : encode 0x800 ≡ 0xE0 ∷ 0xA0 ∷ 0x80 ∷ []
  pub before_surrogates : encode 0xD7FF ≡ 0xED ∷ 0x9F ∷ 0xBF ∷ []
  pub after_surrogates : encode 0xE000 ≡ 0xEE ∷ 0x80 ∷ 0x80 ∷ []
  pub three_last : encode 0xFFFF ≡ 0xEF ∷ 0xBF ∷ 0xBF ∷ []
  pub four_first : encode 0x10000 ≡ 0xF0 ∷ 0x90 ∷ 0x80 ∷ 0x80 ∷ []
  pub four_last : encode 0x10FFFF ≡ 0xF4 ∷ 0x8F ∷ 0xBF ∷ 0xBF ∷ []

pub edges : Edges
unfolding encode
edges =
    record {
      one_last = refl;
      two_first = refl;
      two_last = refl;
      three_first = refl;
      before_surrogates = refl;
      after_surrogates = refl;
      three_last = refl;
      four_first = refl;
      four_last = refl;
    }
