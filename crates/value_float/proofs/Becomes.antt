-- A HALF FLOAT BECOMES THE F32 OF EXACTLY THE SAME NUMBER: `widened` keeps its promise for every sign, exponent and fraction. A finite one has 11 digits at most and an
-- f32 has 24, and its exponent is far from either end of those of an f32, so nothing is rounded.
use mathlib.Core.Path.{◌≡◌, refl, sym, ap, ◌∙◌}
use Prim.Native.Nat.{ℕ, ◌+◌, ◌*◌, ◌^◌, ◌<◌, ◌≤◌}
use native.Mathlib.Nat.{mul_assoc, lt_of_lt_of_le}
use native.Mathlib.Omega.{arith}
use mathlib.Core.Bool.{Bool, true, false, cond}
use lib.Dec.{eqb, lit≤}
use lib.Pow.{pow-add, pow_pos, pow_mono, shl_lt}
use borrow.Author.Tests.{ne_eqb, eq-eqb, eqb-true, eqb-false}
use lib.Ieee.{nan, inf, binary32, round}
use lib.Ieee.Fits.{round-fits}
use lib.Ieee.Bits.{of_bits-to_bits, to_bits-lt}
use lib.Ieee.Exact.{HasValue, round_exact}
use Rattle.value_float.specs.Floats.{single_of}
use Rattle.value_float.specs.Half.{is_negative, exponent_of, fraction_of, digits, shift, scaled, sign_bits, nearest_single, widened, half_of}
use Rattle.value_float.specs.Becomes.{HalfBecomes}
use Rattle.value_float.proofs.Fields.{digits_few, shift_few}
use Rattle.value_float.proofs.Patterns.{at_ones}

-- nothing is rounded
pub same_number : (s : Bool) (x t : ℕ) → x < 31 → t < 1024 → HasValue (round binary32 s (scaled x t) (2 ^ 24)) s (scaled x t) (2 ^ 24)
unfolding scaled
same_number s x t hx ht =
    let q = digits x t in
    let k = shift x in
    round_exact binary32 s (q * 2 ^ k) (2 ^ 24) q (k + 125) (pow_pos 24)
    (lt_of_lt_of_le (digits_few x t ht) (lit≤ tt))
    (lt_of_lt_of_le (shl_lt 11 (k + 125) (digits_few x t ht)) (pow_mono (few (shift_few x hx))))
    (mul_assoc q (2 ^ k) (2 ^ 149) ∙ ap (λ (z : ℕ). q * z) (scale k) ∙ sym (mul_assoc q (2 ^ (k + 125)) (2 ^ 24)))
  where
    few : {k : ℕ} → k < 30 → 11 + (k + 125) ≤ 277
    few {k} h = omega arith

    scale : (k : ℕ) → 2 ^ k * 2 ^ 149 ≡ 2 ^ (k + 125) * 2 ^ 24
    scale k = ap (λ (z : ℕ). 2 ^ k * z) (pow-add 2 125 24) ∙ sym (mul_assoc (2 ^ k) (2 ^ 125) (2 ^ 24)) ∙ ap (λ (z : ℕ). z * 2 ^ 24) (sym (pow-add 2 k 125))

-- ---- by the exponent's field
number : (s : Bool) (x t : ℕ) → x < 31 → t < 1024 → HalfBecomes s x t (nearest_single s (scaled x t))
unfolding nearest_single
number s x t hx ht = record {
  finite = λ h. same_number s x t hx ht;
  infinite = λ e z. absurd (omega arith);
  not_a_number = λ e z. absurd (omega arith);
  bits_at_31 = λ e. absurd (omega arith);
  number_of_bits = sym (of_bits-to_bits binary32 (round binary32 s (scaled x t) (2 ^ 24)) (round-fits binary32 s (scaled x t) (2 ^ 24)));
  in_32_bits = to_bits-lt binary32 (round binary32 s (scaled x t) (2 ^ 24)) (round-fits binary32 s (scaled x t) (2 ^ 24));
}

none : (s : Bool) (x t : ℕ) → x ≡ 31 → t < 1024 → HalfBecomes s x t (single_of (sign_bits s + (0x7F800000 + t * 0x2000)))
none s x t e ht = record {
  finite = λ h. absurd (omega arith);
  infinite = λ k z. at_ones s t ht ∙ ap (λ (b : Bool). cond b (inf s) nan) (eq-eqb (t * 8192) 0 (omega arith));
  not_a_number = λ k z. at_ones s t ht ∙ ap (λ (b : Bool). cond b (inf s) nan) (ne_eqb (t * 8192) 0 (λ y. omega arith));
  bits_at_31 = λ k. refl;
  number_of_bits = refl;
  in_32_bits = few s;
}
  where
    few : (s : Bool) → sign_bits s + (0x7F800000 + t * 0x2000) < 4294967296
    few true = omega arith
    few false = omega arith

pub widened_becomes : (s : Bool) (x t : ℕ) → x < 32 → t < 1024 → HalfBecomes s x t (widened s x t)
unfolding widened
widened_becomes s x t hx ht = go (eqb x 31) refl
  where
    go : (b : Bool) → eqb x 31 ≡ b → HalfBecomes s x t (cond b (single_of (sign_bits s + (0x7F800000 + t * 0x2000))) (nearest_single s (scaled x t)))
    go true e = none s x t (eqb-true x 31 e) ht
    go false e = number s x t (below (eqb-false x 31 e)) ht
      where
        below : (x ≡ 31 → ⊥) → x < 31
        below n = omega arith

pub half_becomes : (h : ℕ) → HalfBecomes (is_negative h) (exponent_of h) (fraction_of h) (half_of h)
unfolding half_of
half_becomes h = widened_becomes (is_negative h) (exponent_of h) (fraction_of h) (omega arith) (omega arith)
