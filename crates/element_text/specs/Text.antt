-- The text of an element, a line: a word for the kind of its value, a space, the value, and a line feed (10). Numbers are printed in decimal, floats exactly (Floats.antt), strings
-- between single quotes (39) and raw bytes in hexadecimal. Each text comes before whatever follows.
use Rattle.std.specs.Prelude.{ℕ, suc, Bool as Truth, true, false, cond, not, ◌&&◌, ◌||◌, List, [], ◌∷◌, ◌++◌, eqb, ltb, leb, ℤ, pos, negsuc}
use Rattle.counts.specs.Outcome.{Outcome, each, unless}
use Rattle.decimal.specs.Decimal.{printed}
use Rattle.utf8_scalar.specs.Encode.{encode}
use Rattle.type_letters.specs.Letters.{is_unicode, is_bytes, is_raw}
use Rattle.type_units.specs.Units.{unit_name}
use Rattle.type_str.specs.Text.{is_type}
use Rattle.type_str.specs.declared.TypeStr.{TypeStr}
use Rattle.string_value.specs.Elements.{bytes_in, points_in}
use Rattle.value.specs.declared.Value.{Value}
use Rattle.value.specs.Values.{read_value}
use Rattle.element_text.specs.Hexadecimal.{hex_digits}
use Rattle.element_text.specs.Floats.{single_format, double_format, float_text}

-- ---- values
-- `True`, `False`
abbrev pub truth_text : Truth → List ℕ → List ℕ
truth_text true x = 84 ∷ 114 ∷ 117 ∷ 101 ∷ x
truth_text false x = 70 ∷ 97 ∷ 108 ∷ 115 ∷ 101 ∷ x

-- a number with `-` (45) where it is negative
abbrev pub signed_text : ℤ → List ℕ → List ℕ
signed_text (pos n) x = printed n x
signed_text (negsuc k) x = 45 ∷ printed (suc k) x

-- `bool True`, `signed -3`, `unsigned 7`, `single F`, `double F`, `single-pair F F`, `double-pair F F`, `time -5 us`
abbrev pub value_text : Value → List ℕ → List ℕ
value_text (Value.Bool b) x = 98 ∷ 111 ∷ 111 ∷ 108 ∷ 32 ∷ truth_text b x
value_text (Value.Signed z) x = 115 ∷ 105 ∷ 103 ∷ 110 ∷ 101 ∷ 100 ∷ 32 ∷ signed_text z x
value_text (Value.Unsigned n) x = 117 ∷ 110 ∷ 115 ∷ 105 ∷ 103 ∷ 110 ∷ 101 ∷ 100 ∷ 32 ∷ printed n x
value_text (Value.Single f) x = 115 ∷ 105 ∷ 110 ∷ 103 ∷ 108 ∷ 101 ∷ 32 ∷ float_text single_format f.bits x
value_text (Value.Double f) x = 100 ∷ 111 ∷ 117 ∷ 98 ∷ 108 ∷ 101 ∷ 32 ∷ float_text double_format f.bits x
value_text (Value.SinglePair f g) x = 115 ∷ 105 ∷ 110 ∷ 103 ∷ 108 ∷ 101 ∷ 45 ∷ 112 ∷ 97 ∷ 105 ∷ 114 ∷ 32 ∷ float_text single_format f.bits (32 ∷ float_text single_format g.bits x)
value_text (Value.DoublePair f g) x = 100 ∷ 111 ∷ 117 ∷ 98 ∷ 108 ∷ 101 ∷ 45 ∷ 112 ∷ 97 ∷ 105 ∷ 114 ∷ 32 ∷ float_text double_format f.bits (32 ∷ float_text double_format g.bits x)
value_text (Value.Time z u) x = 116 ∷ 105 ∷ 109 ∷ 101 ∷ 32 ∷ signed_text z (32 ∷ unit_name u ++ x)

-- ---- strings
-- one after another, each as `one` has it
abbrev pub all_text : (one : ℕ → List ℕ → List ℕ) → List ℕ → List ℕ → List ℕ
all_text one [] x = x
all_text one (c ∷ cs) x = one c (all_text one cs x)

-- a byte between quotes: with a backslash (92) before a backslash and a quote, as it is from 20 to 7E, and else as `\x` and two hexadecimal digits
unfoldable pub byte_text : ℕ → List ℕ → List ℕ
byte_text b x = cond (eqb b 92 || eqb b 39) (92 ∷ b ∷ x) (cond (leb 0x20 b && leb b 0x7E) (b ∷ x) (92 ∷ 120 ∷ hex_digits 2 b x))

-- a code point between quotes: in UTF-8 from A0 on, and below that, where the control characters are, as a byte
unfoldable pub point_text : ℕ → List ℕ → List ℕ
point_text c x = cond (ltb c 0xA0) (byte_text c x) (encode c ++ x)

-- `bytes 'a\x00b'`
abbrev pub bytes_text : List ℕ → List ℕ → List ℕ
bytes_text bs x = 98 ∷ 121 ∷ 116 ∷ 101 ∷ 115 ∷ 32 ∷ 39 ∷ all_text byte_text bs (39 ∷ x)

-- `text 'a'`
abbrev pub points_text : List ℕ → List ℕ → List ℕ
points_text cs x = 116 ∷ 101 ∷ 120 ∷ 116 ∷ 32 ∷ 39 ∷ all_text point_text cs (39 ∷ x)

-- `raw 00ff`, the word alone where there are no bytes
abbrev pub raw_text : List ℕ → List ℕ → List ℕ
raw_text [] x = 114 ∷ 97 ∷ 119 ∷ x
raw_text (b ∷ bs) x = 114 ∷ 97 ∷ 119 ∷ 32 ∷ all_text (hex_digits 2) (b ∷ bs) x

-- ---- elements
-- a text and its line feed
abbrev pub lined : (List ℕ → List ℕ) → List ℕ → List ℕ
lined text x = text (10 ∷ x)

-- the line of an element by its type, followed by a text; or 27 for a type that no reading gives, 29 for a bad scalar value, and what `read_value` refuses, 31, 27 and 32
unfoldable pub line_in : TypeStr → (run : List ℕ) → Outcome (List ℕ → List ℕ)
line_in t run =
    unless (not (is_type t)) 27
    (cond (is_unicode t.letter) (each (λ cs. lined (points_text cs)) (points_in t run))
    (cond (is_bytes t.letter) (each (λ bs. lined (bytes_text bs)) (bytes_in t run))
    (cond (is_raw t.letter) (each (λ bs. lined (raw_text bs)) (bytes_in t run)) (each (λ v. lined (value_text v)) (read_value t run)))))

-- the line itself
abbrev pub element_text : TypeStr → (run : List ℕ) → Outcome (List ℕ)
element_text t run = each (λ f. f []) (line_in t run)
