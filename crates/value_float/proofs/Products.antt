-- A product of two floats whose values are known is the product of the values, rounded once.
use mathlib.Core.Path.{◌≡◌, sym, ap, ◌∙◌}
use Prim.Native.Nat.{ℕ, ◌*◌, ◌<◌}
use native.Mathlib.Nat.{mul-pos, mul_assoc, mul_right_comm}
use mathlib.Core.Bool.{Bool, true, false, true≢false}
use lib.Ieee.{Float, nan, inf, fin, Format, up, down, round, mul}
use lib.Ieee.Fits.{down_pos}
use lib.Ieee.Exact.{HasValue}
use lib.Ieee.Scale.{round_same}

-- x / e and y / g are a / c and b / d
cross : (x y e g a b c d : ℕ) → x * c ≡ a * e → y * d ≡ b * g → x * y * (c * d) ≡ a * b * (e * g)
cross x y e g a b c d p q = swap x y c d ∙ ap (λ (z : ℕ). z * (y * d)) p ∙ ap (λ (z : ℕ). a * e * z) q ∙ sym (swap a b e g)
  where
    swap : (x y c d : ℕ) → x * y * (c * d) ≡ x * c * (y * d)
    swap x y c d = sym (mul_assoc (x * y) c d) ∙ ap (λ (z : ℕ). z * d) (mul_right_comm x y c) ∙ mul_assoc (x * c) y d

pub product : (f : Format) (x y : Float) (s : Bool) (a c b d : ℕ) → 0 < c → 0 < d → HasValue x false a c → HasValue y s b d → mul f x y ≡ round f s (a * b) (c * d)
unfolding mul
product f nan y s a c b d p q h k = absurd h
product f (inf t) y s a c b d p q h k = absurd h
product f (fin t m e) nan s a c b d p q h k = absurd k
product f (fin t m e) (inf u) s a c b d p q h k = absurd k
product f (fin true m e) (fin u n g) s a c b d p q h k = absurd (true≢false h.0)
product f (fin false m e) (fin true n g) s a c b d p q h k =
    ap (λ (z : Bool). round f z (m * up e * (n * up g)) (down e * down g)) k.0
    ∙ round_same f s (m * up e * (n * up g)) (down e * down g) (a * b) (c * d) (mul-pos (down_pos e) (down_pos g)) (mul-pos p q)
    (cross (m * up e) (n * up g) (down e) (down g) a b c d h.1 k.1)
product f (fin false m e) (fin false n g) s a c b d p q h k =
    ap (λ (z : Bool). round f z (m * up e * (n * up g)) (down e * down g)) k.0
    ∙ round_same f s (m * up e * (n * up g)) (down e * down g) (a * b) (c * d) (mul-pos (down_pos e) (down_pos g)) (mul-pos p q)
    (cross (m * up e) (n * up g) (down e) (down g) a b c d h.1 k.1)
