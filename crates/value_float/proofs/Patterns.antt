-- Bit patterns of an f32 by their three parts: what number the pattern of a power of two is, and what an exponent of 255 is. And when bits are no NaN's.
--
use mathlib.Core.Path.{◌≡◌, refl, sym, ap, ◌∙◌, subst}
use Prim.Native.Nat.{ℕ, suc, ◌+◌, ◌*◌, ◌/◌, ◌%◌, ◌^◌, ◌<◌, ◌≤◌}
use native.Mathlib.Nat.{mul_assoc, mul_left_comm, mul_right_comm, eq_of_mul-eq-mul_right}
use native.Mathlib.Omega.{arith}
use mathlib.Core.Bool.{Bool, true, false, not, cond}
use lib.Dec.{T, eqb, leb}
use lib.Pow.{pow-add, pow_pos}
use borrow.Author.Tests.{le-leb, lt-leb, le-ltb, lt-ltb, ne_eqb}
use lib.Ieee.{Float, nan, inf, fin, Format, binary32, binary64, up, down, odd, of_fields, of_bits, nan_bits, is_nan}
use lib.Ieee.Bits.{nan_bits_is, nan_bits_above}
use lib.Ieee.Exact.{HasValue, odd_sign}
use Rattle.value_float.specs.Half.{sign_bits}

by_fields : (b : ℕ) → of_bits binary32 b ≡ of_fields binary32 (leb 2147483648 b) (b % 2147483648 / 8388608) (b % 8388608)
unfolding of_bits
by_fields b = refl

-- a pattern that is put together of its sign, an exponent's field and a fraction
put : (s : Bool) (x t : ℕ) → x < 256 → t < 8388608 → of_bits binary32 (sign_bits s + (x * 8388608 + t)) ≡ of_fields binary32 s x t
put s x t hx ht =
    by_fields (sign_bits s + (x * 8388608 + t))
    ∙ ap (λ (z : Bool). of_fields binary32 z ((sign_bits s + (x * 8388608 + t)) % 2147483648 / 8388608) ((sign_bits s + (x * 8388608 + t)) % 8388608)) (sign s)
    ∙ ap (λ (z : ℕ). of_fields binary32 s z ((sign_bits s + (x * 8388608 + t)) % 8388608)) (field s)
    ∙ ap (λ (z : ℕ). of_fields binary32 s x z) (rest s)
  where
    sign : (s : Bool) → leb 2147483648 (sign_bits s + (x * 8388608 + t)) ≡ s
    sign true = le-leb 2147483648 (2147483648 + (x * 8388608 + t)) (omega arith)
    sign false = lt-leb 2147483648 (0 + (x * 8388608 + t)) (omega arith)

    field : (s : Bool) → (sign_bits s + (x * 8388608 + t)) % 2147483648 / 8388608 ≡ x
    field true = omega arith
    field false = omega arith

    rest : (s : Bool) → (sign_bits s + (x * 8388608 + t)) % 8388608 ≡ t
    rest true = omega arith
    rest false = omega arith

-- ---- values
pub no_nan : (x : Float) (s : Bool) (a c : ℕ) → HasValue x s a c → T (not (is_nan x))
unfolding is_nan
no_nan nan s a c h = absurd h
no_nan (inf t) s a c h = absurd h
no_nan (fin t m e) s a c h = tt

-- from one fraction to another of the same size
pub rescale : (x : Float) (s : Bool) (a c b d : ℕ) → 0 < c → b * c ≡ a * d → HasValue x s a c → HasValue x s b d
rescale nan s a c b d p h v = v
rescale (inf t) s a c b d p h v = v
rescale (fin t m e) s a c b d p h v = (
  v.0,
  eq_of_mul-eq-mul_right c p (m * up e * d) (b * down e)
      (mul_right_comm (m * up e) d c
      ∙ ap (λ (x : ℕ). x * d) v.1
      ∙ mul_right_comm a (down e) d
      ∙ ap (λ (x : ℕ). x * down e) (sym h)
      ∙ mul_right_comm b c (down e)),
)

-- ---- 2 to the power of k less 24
below_ones : (s : Bool) (x t : ℕ) → suc x < 255 → of_fields binary32 s (suc x) t ≡ odd 24 s (8388608 + t) x 149
unfolding of_fields
below_ones s x t h = ap (λ (b : Bool). cond b (cond (eqb t 0) (inf s) nan) (odd 24 s (8388608 + t) x 149)) (ne_eqb (suc x) 255 (λ e. omega arith))

twos : (k : ℕ) → 2 ^ k * 2 ^ 149 ≡ 8388608 * 2 ^ (k + 102) * 2 ^ 24
twos k = sym (ap (λ (z : ℕ). 8388608 * z * 2 ^ 24) (pow-add 2 k 102) ∙ gather (2 ^ k))
  where
    gather : (p : ℕ) → 8388608 * (p * 2 ^ 102) * 2 ^ 24 ≡ p * 2 ^ 149
    gather p = ap (λ (z : ℕ). z * 2 ^ 24) (mul_left_comm 8388608 p (2 ^ 102)) ∙ mul_assoc p (8388608 * 2 ^ 102) (2 ^ 24)

pub power : (s : Bool) (k : ℕ) → k < 30 → HasValue (of_bits binary32 (sign_bits s + (k + 103) * 8388608)) s (2 ^ k) (2 ^ 24)
power s k h =
    subst (λ (x : Float). HasValue x s (2 ^ k) (2 ^ 24)) (sym is)
    (rescale (odd 24 s 8388608 (k + 102) 149) s (8388608 * 2 ^ (k + 102)) (2 ^ 149) (2 ^ k) (2 ^ 24) (pow_pos 149) (twos k) (odd_sign 24 s 8388608 (k + 102) 149))
  where
    is : of_bits binary32 (sign_bits s + (k + 103) * 8388608) ≡ odd 24 s 8388608 (k + 102) 149
    is =
        let e : sign_bits s + (k + 103) * 8388608 ≡ sign_bits s + (suc (k + 102) * 8388608 + 0) = omega arith in
        ap (of_bits binary32) e ∙ put s (suc (k + 102)) 0 (omega arith) (omega arith) ∙ below_ones s (k + 102) 0 (omega arith)

pub power_number : (s : Bool) (k : ℕ) → k < 30 → T (not (nan_bits binary32 (sign_bits s + (k + 103) * 8388608)))
power_number s k h = subst (λ (t : Bool). T (not t)) (sym (nan_bits_is binary32 (sign_bits s + (k + 103) * 8388608))) (no_nan _ s (2 ^ k) (2 ^ 24) (power s k h))

-- ---- infinities and NaNs
pub at_ones : (s : Bool) (t : ℕ) → t < 1024 → of_bits binary32 (sign_bits s + (0x7F800000 + t * 0x2000)) ≡ cond (eqb (t * 8192) 0) (inf s) nan
unfolding of_fields
at_ones s t h = put s 255 (t * 8192) (omega arith) (omega arith)

-- ---- NaNs: above the infinity, once the sign is taken off
is_nan_lem : (x : Float) → is_nan x ≡ true → x ≡ nan
unfolding is_nan
is_nan_lem nan e = refl
is_nan_lem (inf s) e = let z : ◌≡◌ {A = ℕ} 0 1 = cc in absurd (omega arith)
is_nan_lem (fin s m k) e = let z : ◌≡◌ {A = ℕ} 0 1 = cc in absurd (omega arith)

nan_above : (f : Format) (b : ℕ) → nan_bits f b ≡ true → of_bits f b ≡ nan
nan_above f b h = is_nan_lem (of_bits f b) (sym (nan_bits_is f b) ∙ h)

pub single_nan : (b : ℕ) → 2139095040 < b % 2147483648 → of_bits binary32 b ≡ nan
single_nan b h = nan_above binary32 b (nan_bits_above binary32 b ∙ lt-ltb 2139095040 (b % 2147483648) h)

pub single_number : (b : ℕ) → b % 2147483648 ≤ 2139095040 → T (not (nan_bits binary32 b))
single_number b h = subst (λ (t : Bool). T (not t)) (sym (nan_bits_above binary32 b ∙ le-ltb 2139095040 (b % 2147483648) h)) tt

pub double_nan : (b : ℕ) → 0x7FF0000000000000 < b % 0x8000000000000000 → of_bits binary64 b ≡ nan
double_nan b h = nan_above binary64 b (nan_bits_above binary64 b ∙ lt-ltb 0x7FF0000000000000 (b % 0x8000000000000000) h)

pub double_number : (b : ℕ) → b % 0x8000000000000000 ≤ 0x7FF0000000000000 → T (not (nan_bits binary64 b))
double_number b h = subst (λ (t : Bool). T (not t)) (sym (nan_bits_above binary64 b ∙ le-ltb 0x7FF0000000000000 (b % 0x8000000000000000) h)) tt
