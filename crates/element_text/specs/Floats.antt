-- The exact text of a float, from its bits (IEEE 754's interchange formats): `-` where the sign bit is set; then `inf`, `nan(0x400000)` with the fraction of the NaN, or the
-- number in hexadecimal, in the form that C's strtod reads: `0x1.800000p+3` is 1.5 times 2^3. One definition for all formats. Each text comes before whatever follows.
use Rattle.std.specs.Prelude.{ℕ, ◌*◌, ◌-◌, ◌/◌, ◌%◌, ◌^◌, cond, List, ◌∷◌, eqb, leb}
use Rattle.decimal.specs.Decimal.{printed}
use Rattle.element_text.specs.Hexadecimal.{hex_digits}
use Rattle.element_text.specs.declared.Parts.{Parts}

-- a format: how many fractions and how many exponents it has, the exponent of 1, how many hexadecimal digits the fraction is printed with, and the factor that fills them
pub record Format : Type 0 where
  pub fractions : ℕ
  pub exponents : ℕ
  pub bias : ℕ
  pub digits : ℕ
  pub filling : ℕ

-- a sign, 8 bits of exponent, 23 of fraction
abbrev pub single_format : Format
single_format = record { fractions = 2 ^ 23; exponents = 2 ^ 8; bias = 127; digits = 6; filling = 2 }

-- a sign, 11 bits of exponent, 52 of fraction
abbrev pub double_format : Format
double_format = record { fractions = 2 ^ 52; exponents = 2 ^ 11; bias = 1023; digits = 13; filling = 1 }

-- the parts of a float's bits; the last of the exponents is that of infinities and NaNs
abbrev pub float_parts : Format → (bits : ℕ) → Parts
float_parts f bits =
    record {
      negative = leb (f.fractions * f.exponents) bits;
      special = eqb (bits / f.fractions % f.exponents) (f.exponents - 1);
      exponent = bits / f.fractions % f.exponents;
      fraction = bits % f.fractions;
      filled = bits % f.fractions * f.filling;
      digits = f.digits;
      bias = f.bias;
    }

-- an exponent in decimal with its sign, `+` (43) or `-` (45), counted from the bias
abbrev pub exponent_text : (bias exponent : ℕ) → List ℕ → List ℕ
exponent_text bias e x = cond (leb bias e) (43 ∷ printed (e - bias) x) (45 ∷ printed (bias - e) x)

-- the exponent that the number is printed with: the smallest floats, which have no leading 1, have the exponent 0 and count as with 1; zeros are printed with `+0`
abbrev pub shown_exponent : Parts → ℕ
shown_exponent p = cond (eqb p.exponent 0) (cond (eqb p.fraction 0) p.bias 1) p.exponent

-- `0x`, the leading digit, `.`, the digits, `p` and the exponent
abbrev pub finite_text : Parts → List ℕ → List ℕ
finite_text p x = 48 ∷ 120 ∷ cond (eqb p.exponent 0) 48 49 ∷ 46 ∷ hex_digits p.digits p.filled (112 ∷ exponent_text p.bias (shown_exponent p) x)

-- `inf`, or `nan(0x`, the whole fraction and `)`
abbrev pub special_text : Parts → List ℕ → List ℕ
special_text p x = cond (eqb p.fraction 0) (105 ∷ 110 ∷ 102 ∷ x) (110 ∷ 97 ∷ 110 ∷ 40 ∷ 48 ∷ 120 ∷ hex_digits p.digits p.fraction (41 ∷ x))

-- without its sign
abbrev pub unsigned_text : Parts → List ℕ → List ℕ
unsigned_text p x = cond p.special (special_text p x) (finite_text p x)

-- with its sign
unfoldable pub parts_text : Parts → List ℕ → List ℕ
parts_text p x = cond p.negative (45 ∷ unsigned_text p x) (unsigned_text p x)

-- the text of the float of these bits
abbrev pub float_text : Format → (bits : ℕ) → List ℕ → List ℕ
float_text f bits x = parts_text (float_parts f bits) x
