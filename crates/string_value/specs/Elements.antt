-- Document 01, "String elements": "S: trailing zero bytes are dropped. V: nothing is dropped. U: four bytes a code point, in the type's byte order. Each
-- four bytes give a Unicode scalar value or refusal 29; then trailing zeros are dropped." Refusal 26: "a string element asked of a type not S, U or V";
-- asking for the bytes of a U element, or the code points of an S or V element, is 26 too. The run is all the bytes of one element.
use Rattle.std.specs.Prelude.{ℕ, List, [], ◌∷◌, not, cond, eqb, ltb, length, take}
use Rattle.counts.specs.Outcome.{Outcome, gives, refused, then, each, unless}
use Rattle.number_bytes.specs.Numbers.{in_order}
use Rattle.utf8_scalar.specs.Scalar.{is_scalar}
use Rattle.type_letters.specs.declared.Endianness.{Endianness}
use Rattle.type_letters.specs.Letters.{is_unicode, is_bytes, is_raw}
use Rattle.type_str.specs.declared.TypeStr.{TypeStr}

-- b in front of what is left of the rest; a zero in front of nothing is dropped
abbrev pub before : ℕ → List ℕ → List ℕ
before b [] = cond (eqb b 0) [] (b ∷ [])
before b (c ∷ cs) = b ∷ c ∷ cs

-- "trailing zeros are dropped", and no others
abbrev pub trimmed : List ℕ → List ℕ
trimmed [] = []
trimmed (b ∷ bs) = before b (trimmed bs)

-- the value of an S or V element as bytes, or 26
unfoldable pub bytes_in : TypeStr → (run : List ℕ) → Outcome (List ℕ)
bytes_in t run = cond (is_bytes t.letter) (gives (trimmed run)) (cond (is_raw t.letter) (gives run) (refused 26))

-- c if it is a Unicode scalar value, else 29
unfoldable pub scalar : ℕ → Outcome ℕ
scalar c = unless (not (is_scalar c)) 29 (gives c)

-- the code point at the front of a run, or 29; fewer than four bytes give none
unfoldable pub point : Endianness → (run : List ℕ) → Outcome ℕ
point order run = unless (ltb (length run) 4) 29 (scalar (in_order order (take 4 run)))

-- "Each four bytes give a Unicode scalar value or refusal 29"; so does a rest of fewer than four bytes
abbrev pub points : Endianness → (run : List ℕ) → Outcome (List ℕ)
points order [] = gives []
points order (a ∷ []) = refused 29
points order (a ∷ b ∷ []) = refused 29
points order (a ∷ b ∷ c ∷ []) = refused 29
points order (a ∷ b ∷ c ∷ d ∷ run) = then (scalar (in_order order (a ∷ b ∷ c ∷ d ∷ []))) (λ p. each (λ ps. p ∷ ps) (points order run))

-- the value of a U element as code points, or 26, or 29
unfoldable pub points_in : TypeStr → (run : List ℕ) → Outcome (List ℕ)
points_in t run = unless (not (is_unicode t.letter)) 26 (each trimmed (points t.order run))

-- the value, or nothing on a refusal
abbrev pub found : Outcome (List ℕ) → List ℕ
found (gives l) = l
found (refused n) = []
