-- The sum of index times stride: what its loop keeps, and what a range test has seen.
use Rattle.std.specs.Prelude.{None, Some}
use Prim.Native.Nat.{ℕ, zero, suc, ◌+◌, ◌*◌, ◌^◌, ◌<◌, ◌≤◌}
use mathlib.Core.Path.{◌≡◌, refl, ap, sym, ◌∙◌}
use mathlib.Core.Bool.{true, false, and-false}
use mathlib.Core.List.{List, [], ◌∷◌, ◌++◌}
use native.Mathlib.Omega.{arith}
use borrow.Author.Tests.{lt-ltb, le-ltb, ltb-true}
use lib.Dec.{ltb}
use lib.ListN.{length, get_or, drop, drop_of_length-le}
use lib.Seq.{drop-cons}
use Rattle.counts.specs.Number.{number}
use Rattle.counts.specs.Counts.{items}
use Rattle.counts.specs.declared.Items.{Items}
use Rattle.counts.proofs.Alike.{and_left, and_right, true_false}
use Rattle.counts.proofs.Counted.{items_back, items_over_lem, is_items, over_items}
use Rattle.dtype.specs.Shape.{in_range, sum_of_products}
use Rattle.dtype.proofs.Runs.{InRange}

-- ---- the loop of `sum_of_products`
pub record Summed (x ts : List ℕ) (sum k : ℕ) : Type 0 where
  pub within : k ≤ length x
  pub low : sum < 2 ^ 64
  pub is : sum_of_products x ts ≡ sum + sum_of_products (drop k x) (drop k ts)

pub summed_start : (x ts : List ℕ) → Summed x ts 0 0
summed_start x ts = record { within = omega arith; low = omega arith; is = omega arith }

no_strides : (x : List ℕ) → sum_of_products x [] ≡ 0
no_strides [] = refl
no_strides (i ∷ x) = refl

module _ (x ts : List ℕ) (m : Items) (k : ℕ) (s : Summed x ts m.0 k) where
  -- no number is left, or no stride
  pub summed_end : length x ≤ k → Some m ≡ items (number (sum_of_products x ts))
  summed_end l =
      let a : drop k x ≡ [] = drop_of_length-le x {i = k} l in
      let b : sum_of_products x ts ≡ m.0 + 0 = rw a at s.is in
      is_items m (sum_of_products x ts) (omega (arith, b)) (omega (arith, b, s.low))

  pub summed_short : length ts ≤ k → Some m ≡ items (number (sum_of_products x ts))
  summed_short l =
      let a : drop k ts ≡ [] = drop_of_length-le ts {i = k} l in
      let b : sum_of_products x ts ≡ m.0 + sum_of_products (drop k x) [] = rw a at s.is in
      let c = no_strides (drop k x) in
      is_items m (sum_of_products x ts) (omega (arith, b, c)) (omega (arith, b, c, s.low))

  module _ (l : k < length x) (u : k < length ts) where
    split : sum_of_products x ts ≡ m.0 + (get_or x k 0 * get_or ts k 0 + sum_of_products (drop (suc k) x) (drop (suc k) ts))
    split = s.is ∙ rw (drop-cons x k 0 l, drop-cons ts k 0 u)

    pub times_over : None ≡ items (number (get_or x k 0 * get_or ts k 0)) → None ≡ items (number (sum_of_products x ts))
    times_over e = over_items (sum_of_products x ts) (omega (arith, split, items_over_lem (get_or x k 0 * get_or ts k 0) e))

    module _ (more : Items) (e : Some more ≡ items (number (get_or x k 0 * get_or ts k 0))) where
      more_is : get_or x k 0 * get_or ts k 0 ≡ more.0
      more_is = (items_back (get_or x k 0 * get_or ts k 0) more e).0

      pub plus_over : None ≡ items (number (m.0 + more.0)) → None ≡ items (number (sum_of_products x ts))
      plus_over f = over_items (sum_of_products x ts) (omega (arith, split, more_is, items_over_lem (m.0 + more.0) f))

      pub summed_next : (next : Items) → Some next ≡ items (number (m.0 + more.0)) → Summed x ts next.0 (k + 1)
      summed_next next f =
          let b = items_back (m.0 + more.0) next f in
          let z : k + 1 ≡ suc k = omega arith in
          record {
            within = omega arith;
            low = omega (arith, b.0, b.1);
            is = rw z (omega (arith, split, more_is, b.0));
          }

-- ---- the range test
pub wrong_length : (s x : List ℕ) → (length s ≡ length x → ⊥) → false ≡ in_range s x
wrong_length [] [] h = absurd (h refl)
wrong_length [] (i ∷ x) h = refl
wrong_length (n ∷ s) [] h = refl
wrong_length (n ∷ s) (i ∷ x) h = simp (sym (wrong_length s x (λ e. h (ap suc e))), and-false)

pub out_at : (s x : List ℕ) (k : ℕ) → length s ≡ length x → k < length s → get_or s k 0 ≤ get_or x k 0 → false ≡ in_range s x
out_at [] x k e l h = absurd (omega arith)
out_at (n ∷ s) [] k e l h = refl
out_at (n ∷ s) (i ∷ x) zero e l h = simp (le-ltb i n h)
out_at (n ∷ s) (i ∷ x) (suc k) e l h = simp (sym (out_at s x k (omega arith) (omega arith) h), and-false)

pub all_in : (s x : List ℕ) → length s ≡ length x → ((k : ℕ) → k < length s → get_or x k 0 < get_or s k 0) → true ≡ in_range s x
all_in [] [] e h = refl
all_in [] (i ∷ x) e h = absurd (omega arith)
all_in (n ∷ s) [] e h = absurd (omega arith)
all_in (n ∷ s) (i ∷ x) e h =
    simp (lt-ltb i n (h 0 (omega arith)), sym (all_in s x (omega arith) (λ k l. h (suc k) (omega arith))))

pub range_of : (s x : List ℕ) → in_range s x ≡ true → InRange s x
range_of [] [] h = tt
range_of [] (i ∷ x) h = true_false (sym h)
range_of (n ∷ s) [] h = true_false (sym h)
range_of (n ∷ s) (i ∷ x) h = (ltb-true i n (and_left (ltb i n) (in_range s x) h), range_of s x (and_right (ltb i n) (in_range s x) h))

-- strides in front of other numbers
pub sum_front : (x ts r : List ℕ) → length x ≡ length ts → sum_of_products x (ts ++ r) ≡ sum_of_products x ts
sum_front [] [] r e = refl
sum_front [] (t ∷ ts) r e = absurd (omega arith)
sum_front (i ∷ x) [] r e = absurd (omega arith)
sum_front (i ∷ x) (t ∷ ts) r e = ap (λ (n : ℕ). i * t + n) (sum_front x ts r (omega arith))
