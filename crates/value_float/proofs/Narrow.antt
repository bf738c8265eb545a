-- THE 16 BITS OF A HALF FLOAT COME BACK from the f32 that `HalfBecomes` asks for: the whole number of times 2^-24 from a finite one, halved until it is below 2,048; the payload from a NaN's bits.
use Prim.Native.Nat.{ℕ, zero, suc, ◌+◌, ◌*◌, ◌/◌, ◌^◌, ◌<◌, ◌≤◌}
use native.Mathlib.Omega.{arith}
use native.Mathlib.Decide.{dec_lt}
use native.Mathlib.Nat.{mul-one, mul_assoc, mul-suc, mul-div_cancel, pow-suc}
use mathlib.Core.Path.{◌≡◌, refl, sym, ap, ◌∙◌}
use mathlib.Core.Bool.{Bool, true, false}
use lib.Pow.{pow_pos}
use borrow.Author.Tests.{lt-ltb, le-ltb, leb-true, leb-false}
use lib.Ieee.{Float, nan, inf, fin, up, down}
use lib.Ieee.Fits.{down_pos}
use lib.Ieee.Exact.{HasValue}
use Rattle.value_float.specs.declared.Single.{Single}
use Rattle.value_float.specs.Half.{is_negative, exponent_of, fraction_of, scaled, sign_bits, half_of}
use Rattle.value_float.specs.Becomes.{HalfBecomes}
use Rattle.value_float.specs.Narrow.{half_sign, unscaled, narrowed_by, narrowed}
use Rattle.value_float.proofs.Becomes.{half_becomes}

-- ---- the exponent and the fraction, from the size
doubled : (d k : ℕ) → d * 2 ^ suc k ≡ d * 2 ^ k * 2
doubled d k = ap (λ (z : ℕ). d * z) (pow-suc 2 k) ∙ sym (mul_assoc d (2 ^ k) 2)

at_least : (d p : ℕ) → 1024 ≤ d → 0 < p → 1024 ≤ d * p
at_least d zero h l = elim l [ ]
at_least d (suc p) h l = omega (arith, mul-suc d p)

unscaled_small : (j n : ℕ) → n < 2048 → unscaled j n ≡ n
unscaled_small zero n h = refl
unscaled_small (suc j) n h = rw (lt-ltb n 2048 h)

unscaled_doubled : (j k d : ℕ) → 1024 ≤ d → d < 2048 → k ≤ j → unscaled j (d * 2 ^ k) ≡ k * 1024 + d
unscaled_doubled zero zero d low high le = omega arith
unscaled_doubled zero (suc k) d low high le = absurd (omega arith)
unscaled_doubled (suc j) zero d low high le = ap (unscaled (suc j)) (mul-one d) ∙ unscaled_small (suc j) d high ∙ omega arith
unscaled_doubled (suc j) (suc k) d low high le =
    let p = d * 2 ^ k in
    let half : p * 2 / 2 ≡ p = omega arith in
    let more : 2048 ≤ p * 2 = omega (arith, at_least d (2 ^ k) low (pow_pos k)) in
    rw (doubled d k, le-ltb (p * 2) 2048 more, half, unscaled_doubled j k d low high (omega arith)) (omega arith)

unscaled_fields : (x t : ℕ) → x < 31 → t < 1024 → unscaled 29 (scaled x t) ≡ x * 1024 + t
unfolding scaled
unscaled_fields zero t hx ht = ap (unscaled 29) (mul-one t) ∙ unscaled_small 29 t (omega arith) ∙ omega arith
unscaled_fields (suc k) t hx ht = unscaled_doubled 29 k (1024 + t) (omega arith) (omega arith) (omega arith) ∙ add-one k t
  where
    add-one : (k t : ℕ) → k * 1024 + (1024 + t) ≡ suc k * 1024 + t
    add-one k t = omega arith

-- ---- of a finite number
by_value : (n : Float) (b : ℕ) (s : Bool) (a : ℕ) → HasValue n s a (2 ^ 24) → narrowed_by n b ≡ half_sign s + unscaled 29 a
by_value nan b s a h = absurd h
by_value (inf t) b s a h = absurd h
by_value (fin t m e) b s a h =
    ap (λ (z : Bool). half_sign z + unscaled 29 (m * up e * 2 ^ 24 / down e)) h.0
    ∙ ap (λ (z : ℕ). half_sign s + unscaled 29 (z / down e)) h.1
    ∙ ap (λ (z : ℕ). half_sign s + unscaled 29 z) (mul-div_cancel a (down_pos e))

-- ---- of a NaN
by_payload : (s : Bool) (t : ℕ) → t < 1024 → narrowed_by nan (sign_bits s + (255 * 2 ^ 23 + t * 2 ^ 13)) ≡ half_sign s + (31 * 1024 + t)
by_payload true t h = omega arith
by_payload false t h = omega arith

-- ---- of each f32 that a half float may become
module _ (s : Bool) (x t : ℕ) (r : Single) (hx : x < 32) (ht : t < 1024) (h : HalfBecomes s x t r) where
  at_31 : x ≡ 31 → narrowed_by r.number r.bits ≡ half_sign s + (x * 1024 + t)
  at_31 e = elim (dec_lt 0 t) [
    | yes some ↦ ap (λ (z : Float). narrowed_by z r.bits) (h.not_a_number e some) ∙ ap (narrowed_by nan) (h.bits_at_31 e) ∙ by_payload s t ht ∙ ap (λ (z : ℕ). half_sign s + (z * 1024 + t)) (sym e)
    | no none ↦ ap (λ (z : Float). narrowed_by z r.bits) (h.infinite e (omega arith)) ∙ zero_fraction (omega arith)
  ]
    where
      zero_fraction : t ≡ 0 → half_sign s + 0x7C00 ≡ half_sign s + (x * 1024 + t)
      zero_fraction z = omega (arith, e, z)

  by_number : narrowed_by r.number r.bits ≡ half_sign s + (x * 1024 + t)
  by_number = elim (dec_lt x 31) [
    | yes less ↦ by_value r.number r.bits s (scaled x t) (h.finite less) ∙ ap (λ (z : ℕ). half_sign s + z) (unscaled_fields x t less ht)
    | no more ↦ at_31 (omega arith)
  ]

  pub narrow_back : narrowed r.bits ≡ half_sign s + (x * 1024 + t)
  narrow_back = ap (λ (z : Float). narrowed_by z r.bits) (sym h.number_of_bits) ∙ by_number

-- by the 16 bits
pub half_back : (h : ℕ) → h < 2 ^ 16 → narrowed (half_of h).bits ≡ h
half_back h l =
    narrow_back (is_negative h) (exponent_of h) (fraction_of h) (half_of h) (omega arith) (omega arith) (half_becomes h) ∙ together (is_negative h) refl
  where
    together : (s : Bool) → is_negative h ≡ s → half_sign s + (exponent_of h * 1024 + fraction_of h) ≡ h
    together true e = omega (arith, leb-true 0x8000 h e)
    together false e = omega (arith, leb-false 0x8000 h e)
