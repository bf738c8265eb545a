-- The number of eight digits by their pairs. The digits are taken as one number of eight bytes, the first digit lowest. Ten times that number plus the number without its first byte
-- is a number whose bytes are each a digit and the next one, as a number below 100; bytes 0, 2, 4 and 6 have the four pairs.
use Prim.Native.Nat.{ℕ, ◌+◌, ◌*◌, ◌-◌, ◌/◌, ◌%◌, ◌≤◌}
use native.Mathlib.Omega.{arith}
use mathlib.Core.Path.{◌≡◌, sym, ap, ◌∙◌}
use mathlib.Core.Bool.{true}
use mathlib.Core.List.{List, [], ◌∷◌}
use lib.ListN.{length}
use Rattle.std.specs.Int.{w64, from_le_bytes}
use Rattle.counts.proofs.Alike.{and_left, and_right}
use Rattle.decimal.specs.Decimal.{is_digit, decimal, decimal_from}
use Rattle.decimal.specs.Blocks.{all_digits}
use Rattle.decimal.proofs.Runs.{digit_low, digit_high}

-- ---- eight digits by themselves
module _ (b : ℕ) (s : List ℕ) (p : all_digits (b ∷ s) ≡ true) where
  first_digit : is_digit b ≡ true
  unfolding all_digits
  first_digit = and_left (is_digit b) (all_digits s) p

  pub first_is : b ≡ 48 + (b - 48)
  first_is = omega (arith, digit_low b first_digit)

  pub first_small : b - 48 ≤ 9
  first_small = omega (arith, digit_high b first_digit)

  pub first_rest : all_digits s ≡ true
  unfolding all_digits
  first_rest = and_right (is_digit b) (all_digits s) p

record Eight (s : List ℕ) : Type 0 where
  a : ℕ
  b : ℕ
  c : ℕ
  d : ℕ
  e : ℕ
  f : ℕ
  g : ℕ
  h : ℕ
  small : (a ≤ 9) × (b ≤ 9) × (c ≤ 9) × (d ≤ 9) × (e ≤ 9) × (f ≤ 9) × (g ≤ 9) × (h ≤ 9)
  are : s ≡ (48 + a) ∷ (48 + b) ∷ (48 + c) ∷ (48 + d) ∷ (48 + e) ∷ (48 + f) ∷ (48 + g) ∷ (48 + h) ∷ []

eight_digits : (s : List ℕ) → length s ≡ 8 → all_digits s ≡ true → Eight s
eight_digits (a ∷ b ∷ c ∷ d ∷ e ∷ f ∷ g ∷ h ∷ []) l p =
    let pb = first_rest a (b ∷ c ∷ d ∷ e ∷ f ∷ g ∷ h ∷ []) p in
    let pc = first_rest b (c ∷ d ∷ e ∷ f ∷ g ∷ h ∷ []) pb in
    let pd = first_rest c (d ∷ e ∷ f ∷ g ∷ h ∷ []) pc in
    let pe = first_rest d (e ∷ f ∷ g ∷ h ∷ []) pd in
    let pf = first_rest e (f ∷ g ∷ h ∷ []) pe in
    let pg = first_rest f (g ∷ h ∷ []) pf in
    let ph = first_rest g (h ∷ []) pg in
    record {
      a = a - 48;
      b = b - 48;
      c = c - 48;
      d = d - 48;
      e = e - 48;
      f = f - 48;
      g = g - 48;
      h = h - 48;
      small = (first_small a _ p, first_small b _ pb, first_small c _ pc, first_small d _ pd, first_small e _ pe, first_small f _ pf, first_small g _ pg, first_small h _ ph);
      are = λ i. first_is a _ p i ∷ first_is b _ pb i ∷ first_is c _ pc i ∷ first_is d _ pd i ∷ first_is e _ pe i ∷ first_is f _ pf i ∷ first_is g _ pg i ∷ first_is h _ ph i ∷ [];
    }
eight_digits [] l p = absurd (omega arith)
eight_digits (a ∷ []) l p = absurd (omega arith)
eight_digits (a ∷ b ∷ []) l p = absurd (omega arith)
eight_digits (a ∷ b ∷ c ∷ []) l p = absurd (omega arith)
eight_digits (a ∷ b ∷ c ∷ d ∷ []) l p = absurd (omega arith)
eight_digits (a ∷ b ∷ c ∷ d ∷ e ∷ []) l p = absurd (omega arith)
eight_digits (a ∷ b ∷ c ∷ d ∷ e ∷ f ∷ []) l p = absurd (omega arith)
eight_digits (a ∷ b ∷ c ∷ d ∷ e ∷ f ∷ g ∷ []) l p = absurd (omega arith)
eight_digits (a ∷ b ∷ c ∷ d ∷ e ∷ f ∷ g ∷ h ∷ i ∷ s) l p = absurd (omega arith)

plain : (x : ℕ) → 48 + x - 48 ≡ x
plain x = omega arith

written : (a b c d e f g h : ℕ) → decimal ((48 + a) ∷ (48 + b) ∷ (48 + c) ∷ (48 + d) ∷ (48 + e) ∷ (48 + f) ∷ (48 + g) ∷ (48 + h) ∷ [])
    ≡ (10 * a + b) * 1000000 + (10 * c + d) * 10000 + (10 * e + f) * 100 + (10 * g + h)
unfolding decimal_from
written a b c d e f g h = rw (decimal_from, plain a, plain b, plain c, plain d, plain e, plain f, plain g, plain h) (omega arith)

-- ---- the bytes of a number: the first is a pair, and without the first two the next pair is the first byte
pair : (a b c r y : ℕ) → a ≤ 9 → b ≤ 9 → c ≤ 9 → y ≡ 10 * a + b + 256 * (10 * b + c) + 65536 * r → (y % 256 ≡ 10 * a + b) × (y / 65536 ≡ r)
pair a b c r y la lb lc e = (omega (arith, la, lb, lc, e), omega (arith, la, lb, lc, e))

without_4 : (y : ℕ) → y / 4294967296 ≡ y / 65536 / 65536
without_4 y = omega arith

without_6 : (y : ℕ) → y / 281474976710656 ≡ y / 65536 / 65536 / 65536
without_6 y = omega arith

-- ---- the number of eight digits
-- the byte 48 eight times
abbrev pub zeros : ℕ
zeros = 3472328296227680304

module _ (s : List ℕ) (l : length s ≡ 8) (p : all_digits s ≡ true) (n : ℕ) (k : n ≡ from_le_bytes w64 s) where
  pub zeros_below : zeros ≤ n
  zeros_below = let t = eight_digits s l p in omega (arith, k, ap (λ (u : List ℕ). from_le_bytes w64 u) t.are)

  -- no digit is above 9
  pub digits_below : n - zeros ≤ 651061555542690057
  digits_below = let t = eight_digits s l p in omega (arith, t.small, k, ap (λ (u : List ℕ). from_le_bytes w64 u) t.are)

  pub by_pairs : (y : ℕ) → y ≡ (n - zeros) * 10 + (n - zeros) / 256
      → y % 256 * 1000000 + y / 65536 % 256 * 10000 + y / 4294967296 % 256 * 100 + y / 281474976710656 % 256 ≡ decimal s
  unfolding decimal_from
  by_pairs y q =
      let t = eight_digits s l p in
      let m = t.small in
      let w = t.b + 256 * (t.c + 256 * (t.d + 256 * (t.e + 256 * (t.f + 256 * (t.g + 256 * t.h))))) in
      let v : n - zeros ≡ t.a + 256 * w = omega (arith, k, ap (λ (u : List ℕ). from_le_bytes w64 u) t.are) in
      let u : (n - zeros) / 256 ≡ w = omega (arith, v, m.0) in
      let y6 = 10 * t.g + t.h + 256 * (10 * t.h + 0) + 65536 * 0 in
      let y4 = 10 * t.e + t.f + 256 * (10 * t.f + t.g) + 65536 * y6 in
      let y2 = 10 * t.c + t.d + 256 * (10 * t.d + t.e) + 65536 * y4 in
      let p0 = pair t.a t.b t.c y2 y m.0 m.1 m.2 (omega (arith, q, v, u)) in
      let p2 = pair t.c t.d t.e y4 (y / 65536) m.2 m.3 m.4 p0.1 in
      let p4 = pair t.e t.f t.g y6 (y / 65536 / 65536) m.4 m.5 m.6 p2.1 in
      let p6 = pair t.g t.h 0 0 (y / 65536 / 65536 / 65536) m.6 m.7 (omega arith) p4.1 in
      rw (without_4 y, without_6 y, p0.0, p2.0, p4.0, p6.0) (sym (ap decimal t.are ∙ written t.a t.b t.c t.d t.e t.f t.g t.h))
