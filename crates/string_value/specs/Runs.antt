-- Document 01, "String elements": "Writing S or U fills up with zeros; V takes exactly its size, else 30." "The refusal numbers": 30 "value does not fit
-- the element"; "Writing an element: 27, 26 for its type, 29, 30, 28." 27 and 28 are in Rooms.antt, the others here.
use Rattle.std.specs.Prelude.{ℕ, ◌-◌, List, [], ◌∷◌, ◌++◌, not, cond, eqb, ltb, length, replicate}
use Rattle.counts.specs.Outcome.{Outcome, gives, refused, unless}
use Rattle.number_bytes.specs.Numbers.{out_order}
use Rattle.utf8_scalar.specs.Scalar.{all_scalars}
use Rattle.type_letters.specs.declared.Endianness.{Endianness}
use Rattle.type_letters.specs.Letters.{is_unicode, is_bytes, is_raw}
use Rattle.type_str.specs.declared.TypeStr.{TypeStr}

-- "fills up with zeros"
unfoldable pub zero_filled : ℕ → List ℕ → List ℕ
zero_filled size value = value ++ replicate (size - length value) 0

-- bytes as the run of an S or V element, or 26, or 30
unfoldable pub bytes_out : TypeStr → (value : List ℕ) → Outcome (List ℕ)
bytes_out t value = cond (is_bytes t.letter) (unless (ltb t.size (length value)) 30 (gives (zero_filled t.size value)))
    (cond (is_raw t.letter) (unless (not (eqb t.size (length value))) 30 (gives value)) (refused 26))

-- "four bytes a code point, in the type's byte order", followed by x
abbrev pub point_bytes : Endianness → List ℕ → List ℕ → List ℕ
point_bytes order [] x = x
point_bytes order (c ∷ cs) x = out_order order 4 c ++ point_bytes order cs x

-- code points as the run of a U element, or the first of 26, 29, 30 that applies
unfoldable pub points_out : TypeStr → (value : List ℕ) → Outcome (List ℕ)
points_out t value = unless (not (is_unicode t.letter)) 26 (unless (not (all_scalars value)) 29
    (unless (ltb t.size (length value)) 30 (gives (point_bytes t.order (zero_filled t.size value) []))))
