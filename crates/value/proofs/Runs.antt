-- The number in a run of few bytes fits.
use Rattle.std.specs.Prelude.{None, Some}
use mathlib.Core.Path.{◌≡◌, refl, sym, ap, subst}
use Prim.Native.Nat.{ℕ, suc, ◌-◌, ◌^◌, ◌<◌, ◌≤◌}
use native.Mathlib.Nat.{lt_of_lt_of_le, pow-le-pow_right}
use native.Mathlib.Omega.{arith}
use mathlib.Core.Bool.{Bool, true, ◌||◌}
use mathlib.Core.List.{List, [], ◌∷◌}
use lib.Dec.{eqb}
use lib.ListN.{length, get_or, take, drop, length-drop}
use lib.Seq.{take_all}
use borrow.Author.Tests.{lt-ltb, eqb-true}
use lib.IntN.{ℤ}
use mir.Syntax.{w8, w64}
use mir.Val.{Fits, to_z, of_z}
use Rattle.counts.specs.Lists.{AllBytes}
use Rattle.counts.specs.Number.{number, number_by}
use Rattle.counts.proofs.Alike.{or_elim}
use Rattle.number_bytes.specs.Numbers.{in_order}
use Rattle.number_bytes.proofs.Widths.{in_below}
use Rattle.type_letters.specs.declared.Endianness.{Endianness}
use Rattle.value.specs.Sizes.{IntegerSize}
use Rattle.value.specs.Values.{most_of, signed_in}
use Rattle.value.proofs.Complement.{back}

-- what a slice of bytes is known to hold
pub all_bytes : (run : List ℕ) → ((i : ℕ) → Fits w8 (get_or run i 0)) → AllBytes run
all_bytes [] h = tt
all_bytes (b ∷ run) h = ((h 0).fits, all_bytes run (λ i. h (suc i)))

powers : (n k : ℕ) → n ≤ k → 256 ^ n ≤ 256 ^ k
powers n k l = pow-le-pow_right {n = 256} (omega arith) l

module _ (o : Endianness) (run : List ℕ) (h : (i : ℕ) → Fits w8 (get_or run i 0)) where
  pub below : (w : ℕ) → length run ≡ w → in_order o run < 256 ^ w
  below w e = subst (λ (n : ℕ). in_order o run < 256 ^ n) e (in_below o run (all_bytes run h))

  small : length run ≤ 8 → in_order o run < 2 ^ 64
  small l = lt_of_lt_of_le (in_below o run (all_bytes run h)) (powers (length run) 8 l)

  pub number_is : length run ≤ 8 → number (in_order o run) ≡ Some (in_order o run)
  unfolding number
  number_is l = ap (λ (t : Bool). number_by t (in_order o run)) (lt-ltb (in_order o run) (2 ^ 64) (small l))

  pub not_over : length run ≤ 8 → None ≡ number (in_order o run) → ⊥
  not_over l e = let f = number_is l in let z : ◌≡◌ {A = ℕ} 0 1 = cc in omega arith

  pub is_number : length run ≤ 8 → (n : ℕ) → Some n ≡ number (in_order o run) → n ≡ in_order o run
  is_number l n e = let f = number_is l in cc

-- one of four widths, each by itself
pub by_width : (P : ℕ → Type 0) → P 1 → P 2 → P 4 → P 8 → (n : ℕ) → IntegerSize n → P n
by_width P p1 p2 p4 p8 n w =
    or_elim (eqb n 1 || eqb n 2 || eqb n 4) (eqb n 8) w
    (λ x. or_elim (eqb n 1 || eqb n 2) (eqb n 4) x (λ y. or_elim (eqb n 1) (eqb n 2) y (is 1 p1) (is 2 p2)) (is 4 p4))
    (is 8 p8)
  where
    is : (k : ℕ) → P k → eqb n k ≡ true → P n
    is k p e = subst P (sym (eqb-true n k e)) p

pub at_most_bytes : (o : Endianness) (run : List ℕ) → AllBytes run → IntegerSize (length run) → in_order o run ≤ most_of (length run)
at_most_bytes o run h w =
    by_width (λ n. length run ≡ n → in_order o run ≤ most_of n)
    (λ e. let b = under 1 e in omega arith)
    (λ e. let b = under 2 e in omega arith)
    (λ e. let b = under 4 e in omega arith)
    (λ e. let b = under 8 e in omega arith)
    (length run) w refl
  where
    under : (w : ℕ) → length run ≡ w → in_order o run < 256 ^ w
    under w e = subst (λ (n : ℕ). in_order o run < 256 ^ n) e (in_below o run h)

pub at_most : (o : Endianness) (run : List ℕ) → ((i : ℕ) → Fits w8 (get_or run i 0)) → IntegerSize (length run) → in_order o run ≤ most_of (length run)
at_most o run h w = at_most_bytes o run (all_bytes run h) w

pub whole_few : (n : ℕ) → IntegerSize n → n ≤ 8
whole_few = by_width (λ n. n ≤ 8) (omega arith) (omega arith) (omega arith) (omega arith)

pub most_small : (n : ℕ) → IntegerSize n → most_of n < 18446744073709551616
most_small = by_width (λ n. most_of n < 18446744073709551616) (omega arith) (omega arith) (omega arith) (omega arith)

-- what is left of the four widths
pub eight_left : (n : ℕ) → (n ≡ 1 → ⊥) → (n ≡ 2 → ⊥) → (n ≡ 4 → ⊥) → IntegerSize n → n ≡ 8
eight_left n a b c w = by_width (λ k. k ≡ n → n ≡ 8) (λ e. absurd (a (sym e))) (λ e. absurd (b (sym e))) (λ e. absurd (c (sym e))) (λ e. sym e) n w refl

pub eight_whole : (n : ℕ) → n ≡ 8 → IntegerSize n
eight_whole n e = subst IntegerSize (sym e) refl

pub signed_back : {z : ℤ} (o : Endianness) (run : List ℕ) → ((i : ℕ) → Fits w8 (get_or run i 0)) → IntegerSize (length run) → z ≡ signed_in o run → to_z w64 (of_z w64 z) ≡ signed_in o run
signed_back {z} o run h w e = back z (in_order o run) (most_of (length run)) (most_small (length run) w) (at_most o run h w) e

-- what is left after the first bytes is the end of the run
pub rest_is : (k : ℕ) (run : List ℕ) → take (length run - k) (drop k run) ≡ drop k run
rest_is k run = take_all (length run - k) (drop k run) (omega (arith, length-drop k run))
