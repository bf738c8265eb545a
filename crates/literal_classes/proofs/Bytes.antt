-- What holds of every byte, each by one computed test over all 256: `at_below` turns a test that passes at each number below n into its fact. So the class of a byte says what
-- the tests of crates literal_grammar and decimal say.
use mathlib.Core.Path.{◌≡◌, refl, subst}
use mathlib.Core.Bool.{Bool, true, false, ◌&&◌}
use Prim.Native.Nat.{ℕ, zero, suc, ◌<◌}
use native.Mathlib.Omega.{arith}
use native.Mathlib.Decide.{dec_lt}
use lib.Dec.{T, eqb}
use Rattle.decimal.specs.Decimal.{is_digit}
use Rattle.literal_grammar.specs.Bytes.{is_blank, is_quote, is_break, is_open}
use Rattle.literal_classes.specs.Classes.{is_word_letter, is_bracket, class_of}

abbrev both : Bool → Bool → Bool
both true b = b
both false b = false

-- a test passes at each number below n
abbrev pub below : (ℕ → Bool) → ℕ → Bool
below f zero = true
below f (suc n) = both (f n) (below f n)

both_left : (a b : Bool) → T (both a b) → T a
both_left true b t = tt
both_left false b t = t

both_right : (a b : Bool) → T (both a b) → T b
both_right true b t = t
both_right false b t = absurd t

pub at_below : (f : ℕ → Bool) (n : ℕ) → T (below f n) → (b : ℕ) → b < n → T (f b)
at_below f zero t b h = absurd (omega arith)
at_below f (suc n) t b h = elim (dec_lt b n) [
  | yes l ↦ at_below f n (both_right (f n) (below f n) t) b l
  | no g ↦ let e : n ≡ b = omega arith in subst (λ (k : ℕ). T (f k)) e (both_left (f n) (below f n) t)
]

abbrev same : Bool → Bool → Bool
same true b = b
same false true = false
same false false = true

same_is : (a b : Bool) → T (same a b) → a ≡ b
same_is true true t = refl
same_is true false t = absurd t
same_is false true t = absurd t
same_is false false t = refl

each_byte : (f g : ℕ → Bool) → T (below (λ b. same (f b) (g b)) 256) → (b : ℕ) → b < 256 → f b ≡ g b
each_byte f g t b h = same_is (f b) (g b) (at_below (λ k. same (f k) (g k)) 256 t b h)

pub blank_class : (b : ℕ) → b < 256 → eqb (class_of b) 0 ≡ is_blank b
unfolding class_of is_blank is_digit is_word_letter is_quote is_bracket is_open
blank_class = each_byte (λ b. eqb (class_of b) 0) is_blank tt

pub digit_class : (b : ℕ) → b < 256 → eqb (class_of b) 1 ≡ is_digit b
unfolding class_of is_blank is_digit is_word_letter is_quote is_bracket is_open
digit_class = each_byte (λ b. eqb (class_of b) 1) is_digit tt

pub quote_class : (b : ℕ) → b < 256 → eqb (class_of b) 3 ≡ is_quote b
unfolding class_of is_blank is_digit is_word_letter is_quote is_bracket is_open
quote_class = each_byte (λ b. eqb (class_of b) 3) is_quote tt

pub backslash_class : (b : ℕ) → b < 256 → eqb (class_of b) 8 ≡ eqb b 92
unfolding class_of is_blank is_digit is_word_letter is_quote is_bracket is_open
backslash_class = each_byte (λ b. eqb (class_of b) 8) (λ b. eqb b 92) tt

-- LF and CR are blanks
pub break_class : (b : ℕ) → b < 256 → (is_break b && eqb (class_of b) 0) ≡ is_break b
unfolding class_of is_blank is_break is_digit is_word_letter is_quote is_bracket is_open
break_class = each_byte (λ b. is_break b && eqb (class_of b) 0) is_break tt
