-- NO TWO FLOATS ARE THE SAME NUMBER: a value that a format holds is written in one way, with an odd number or as 0, so that its sign and its size fix it (`value_one`).
-- So `HalfBecomes` (specs/Becomes.antt) fixes an f32 and its bits: what a half float becomes has no second outcome (`becomes_one`).
use mathlib.Core.Path.{◌≡◌, refl, sym, ap, ◌∙◌, subst}
use Prim.Native.Nat.{ℕ, zero, suc, ◌+◌, ◌*◌, ◌%◌, ◌^◌, ◌<◌}
use native.Mathlib.Nat.{mul-one, one-mul, mul_assoc, mul_left_comm, mul_right_comm, mul-pos, zero-mul, lt_irrefl, zero-lt-suc, pow-succ', pow-suc, eq_of_mul-eq-mul_right}
use native.Mathlib.Omega.{arith}
use native.Mathlib.Decide.{dec_lt}
use mathlib.Core.Bool.{Bool, ◌&&◌, not}
use lib.IntN.{ℤ, pos, negsuc}
use lib.Dec.{T, eqb, ltb, leb, eqb→eq}
use lib.Pow.{pow-add, pow_pos}
use lib.Ieee.{Float, nan, inf, fin, Format, binary32, prec, emax, low, up, down, fits, is_nan, of_bits, to_bits}
use lib.Ieee.Fits.{and_l, up_pos, down_pos}
use lib.Ieee.Bits.{of_bits-fits, to_bits-of_bits}
use lib.Ieee.Exact.{HasValue}
use Rattle.counts.specs.OneOutcome.{OneOutcome}
use Rattle.value_float.specs.declared.Single.{Single}
use Rattle.value_float.specs.Half.{scaled}
use Rattle.value_float.specs.Becomes.{HalfBecomes}
use Rattle.value_float.proofs.Patterns.{no_nan}

-- ---- an odd number times a power of two
even_odd : (m t : ℕ) → m % 2 ≡ 1 → m ≡ 2 * t → ⊥
even_odd m t o h = omega arith

odd_pow : (m n a b : ℕ) → m % 2 ≡ 1 → n % 2 ≡ 1 → m * 2 ^ a ≡ n * 2 ^ b → (m ≡ n) × (a ≡ b)
odd_pow m n zero zero o p h = (sym (mul-one m) ∙ h ∙ mul-one n, refl)
odd_pow m n zero (suc b) o p h = absurd (even_odd m (n * 2 ^ b) o (sym (mul-one m) ∙ h ∙ ap (λ (x : ℕ). n * x) (pow-succ' 2 b) ∙ mul_left_comm n 2 (2 ^ b)))
odd_pow m n (suc a) zero o p h = absurd (even_odd n (m * 2 ^ a) p (sym (mul-one n) ∙ sym h ∙ ap (λ (x : ℕ). m * x) (pow-succ' 2 a) ∙ mul_left_comm m 2 (2 ^ a)))
odd_pow m n (suc a) (suc b) o p h =
    let r = odd_pow m n a b o p (eq_of_mul-eq-mul_right 2 (zero-lt-suc 1) (m * 2 ^ a) (n * 2 ^ b)
    (mul_assoc m (2 ^ a) 2 ∙ ap (λ (x : ℕ). m * x) (sym (pow-suc 2 a)) ∙ h ∙ ap (λ (x : ℕ). n * x) (pow-suc 2 b) ∙ sym (mul_assoc n (2 ^ b) 2))) in
    (r.0, ap suc r.1)

-- 2 ^ e / 2 ^ g as one power of two on either side
same_power : (m n : ℕ) (e g : ℤ) → m % 2 ≡ 1 → n % 2 ≡ 1 → m * up e * down g ≡ n * up g * down e → (m ≡ n) × (e ≡ g)
same_power m n (pos i) (pos j) o p h = let r = odd_pow m n i j o p (sym (mul-one (m * 2 ^ i)) ∙ h ∙ mul-one (n * 2 ^ j)) in (r.0, ap pos r.1)
same_power m n (pos i) (negsuc j) o p h =
    let r = odd_pow m n (i + suc j) 0 o p (ap (λ (x : ℕ). m * x) (pow-add 2 i (suc j)) ∙ sym (mul_assoc m (2 ^ i) (2 ^ suc j)) ∙ h ∙ mul-one (n * 1)) in
    absurd (some i j r.1)
  where
    some : (i j : ℕ) → i + suc j ≡ 0 → ⊥
    some i j z = omega arith
same_power m n (negsuc i) (pos j) o p h =
    let r = odd_pow m n 0 (j + suc i) o p (sym (mul-one (m * 1)) ∙ h ∙ mul_assoc n (2 ^ j) (2 ^ suc i) ∙ ap (λ (x : ℕ). n * x) (sym (pow-add 2 j (suc i)))) in
    absurd (some i j r.1)
  where
    some : (i j : ℕ) → 0 ≡ j + suc i → ⊥
    some i j z = omega arith
same_power m n (negsuc i) (negsuc j) o p h =
    let r = odd_pow m n (suc j) (suc i) o p (ap (λ (x : ℕ). x * 2 ^ suc j) (sym (mul-one m)) ∙ h ∙ ap (λ (x : ℕ). x * 2 ^ suc i) (mul-one n)) in
    (r.0, ap negsuc (down_one i j r.1))
  where
    down_one : (i j : ℕ) → suc j ≡ suc i → i ≡ j
    down_one i j z = omega arith

-- ---- how a value that fits is written
is_odd : (f : Format) (s : Bool) (m : ℕ) (e : ℤ) → T (fits f (fin s (suc m) e)) → suc m % 2 ≡ 1
unfolding fits
is_odd f s m e t =
    eqb→eq (suc m % 2) 1 (and_l (eqb (suc m % 2) 1) (ltb (suc m) (2 ^ prec f)) (and_l (eqb (suc m % 2) 1 && ltb (suc m) (2 ^ prec f)) (leb (down e) (2 ^ low f))
    (and_l (eqb (suc m % 2) 1 && ltb (suc m) (2 ^ prec f) && leb (down e) (2 ^ low f)) (ltb (suc m * up e) (2 ^ suc (emax f) * down e)) t)))

two_up : (p : ℕ) → 0 < p → 2 * p ≡ 1 → ⊥
two_up p h e = omega arith

flat : (e : ℤ) → up e * down e ≡ 1 → e ≡ pos 0
flat (pos zero) h = refl
flat (pos (suc k)) h = absurd (two_up (2 ^ k) (pow_pos k) (sym (pow-succ' 2 k) ∙ sym (mul-one (2 ^ suc k)) ∙ h))
flat (negsuc k) h = absurd (two_up (2 ^ k) (pow_pos k) (sym (pow-succ' 2 k) ∙ sym (one-mul (2 ^ suc k)) ∙ h))

zero_exp : (f : Format) (s : Bool) (e : ℤ) → T (fits f (fin s zero e)) → e ≡ pos 0
unfolding fits
zero_exp f s e t = flat e (eqb→eq (up e * down e) 1 t)

-- ---- of one size
cross : (x y e g a c : ℕ) → 0 < c → x * c ≡ a * e → y * c ≡ a * g → x * g ≡ y * e
cross x y e g a c p h k =
    eq_of_mul-eq-mul_right c p (x * g) (y * e)
    (mul_right_comm x g c ∙ ap (λ (z : ℕ). z * g) h ∙ mul_right_comm a e g ∙ ap (λ (z : ℕ). z * e) (sym k) ∙ mul_right_comm y c e)

none : (m : ℕ) (e : ℤ) (d : ℕ) → 0 < d → suc m * up e * d ≡ 0 → ⊥
none m e d p h = lt_irrefl 0 (subst (λ (x : ℕ). 0 < x) h (mul-pos (mul-pos (zero-lt-suc m) (up_pos e)) p))

pub value_one : (f : Format) (x y : Float) (s : Bool) (a c : ℕ) → 0 < c → T (fits f x) → T (fits f y) → HasValue x s a c → HasValue y s a c → x ≡ y
value_one f nan y s a c p u w h k = absurd h
value_one f (inf t) y s a c p u w h k = absurd h
value_one f (fin t m e) nan s a c p u w h k = absurd k
value_one f (fin t m e) (inf r) s a c p u w h k = absurd k
value_one f (fin t zero e) (fin r zero g) s a c p u w h k = λ i. fin ((h.0 ∙ sym k.0) i) zero ((zero_exp f t e u ∙ sym (zero_exp f r g w)) i)
value_one f (fin t zero e) (fin r (suc n) g) s a c p u w h k =
    absurd (none n g (down e) (down_pos e) (sym (cross (zero * up e) (suc n * up g) (down e) (down g) a c p h.1 k.1) ∙ ap (λ (z : ℕ). z * down g) (zero-mul (up e)) ∙ zero-mul (down g)))
value_one f (fin t (suc m) e) (fin r zero g) s a c p u w h k =
    absurd (none m e (down g) (down_pos g) (cross (suc m * up e) (zero * up g) (down e) (down g) a c p h.1 k.1 ∙ ap (λ (z : ℕ). z * down e) (zero-mul (up g)) ∙ zero-mul (down e)))
value_one f (fin t (suc m) e) (fin r (suc n) g) s a c p u w h k =
    let z = same_power (suc m) (suc n) e g (is_odd f t m e u) (is_odd f r n g w) (cross (suc m * up e) (suc n * up g) (down e) (down g) a c p h.1 k.1) in
    λ i. fin ((h.0 ∙ sym k.0) i) (z.0 i) (z.1 i)

-- ---- what a half float becomes
held : (r : Single) → r.number ≡ of_bits binary32 r.bits → T (fits binary32 r.number)
held r e = subst (λ (x : Float). T (fits binary32 x)) (sym e) (of_bits-fits binary32 r.bits)

pair : (r q : Single) → r.number ≡ q.number → r.bits ≡ q.bits → r ≡ q
pair r q e k = λ i. record { number = e i; bits = k i }

pub becomes_one : (s : Bool) (x t : ℕ) → x < 32 → OneOutcome {A = Single} (HalfBecomes s x t)
becomes_one s x t hx r q h k = elim (dec_lt x 31) [ yes less ↦ finite less | no more ↦ at_31 (omega arith) ]
  where
    at_31 : x ≡ 31 → r ≡ q
    at_31 e =
        let b : r.bits ≡ q.bits = h.bits_at_31 e ∙ sym (k.bits_at_31 e) in
        pair r q (h.number_of_bits ∙ ap (of_bits binary32) b ∙ sym k.number_of_bits) b

    back : (z : Single) → z.number ≡ of_bits binary32 z.bits → z.bits < 2 ^ 32 → T (not (is_nan z.number)) → to_bits binary32 z.number ≡ z.bits
    back z e l n = ap (to_bits binary32) e ∙ to_bits-of_bits binary32 z.bits l (subst (λ (y : Float). T (not (is_nan y))) e n)

    finite : x < 31 → r ≡ q
    finite l =
        let v = h.finite l in
        let w = k.finite l in
        let e = value_one binary32 r.number q.number s (scaled x t) (2 ^ 24) (pow_pos 24) (held r h.number_of_bits) (held q k.number_of_bits) v w in
        pair r q e (sym (back r h.number_of_bits h.in_32_bits (no_nan _ s _ _ v)) ∙ ap (to_bits binary32) e ∙ back q k.number_of_bits k.in_32_bits (no_nan _ s _ _ w))
