-- Runs of stores: one after the other; and in either order if they do not overlap.
use Prim.Native.Nat.{ℕ, suc, ◌+◌, ◌<◌, ◌≤◌}
use native.Mathlib.Omega.{arith}
use mathlib.Core.Path.{◌≡◌, refl, sym, ap, ◌∙◌}
use mathlib.Core.List.{List, [], ◌∷◌, ◌++◌}
use lib.ListN.{length, get_or, set}
use lib.Seq.{sets, set_comm, get_or-set_other, set-set}

plus_zero : (k : ℕ) → k + 0 ≡ k
plus_zero k = omega arith

plus_suc : (k n : ℕ) → suc k + n ≡ k + suc n
plus_suc k n = omega arith

-- ---- stores
pub sets_append : (l : List ℕ) (k : ℕ) (xs ys : List ℕ) → sets l k (xs ++ ys) ≡ sets (sets l k xs) (k + length xs) ys
sets_append l k [] ys = ap (λ (i : ℕ). sets l i ys) (sym (plus_zero k))
sets_append l k (x ∷ xs) ys = sets_append (set l k x) (suc k) xs ys ∙ ap (λ (i : ℕ). sets (sets (set l k x) (suc k) xs) i ys) (plus_suc k (length xs))

pub set_sets : (l : List ℕ) (k x j : ℕ) (ys : List ℕ) → k < j → set (sets l j ys) k x ≡ sets (set l k x) j ys
set_sets l k x j [] lt = refl
set_sets l k x j (y ∷ ys) lt =
    set_sets (set l j y) k x (suc j) ys (omega arith) ∙ ap (λ (m : List ℕ). sets m (suc j) ys) (set_comm l j k y x (λ (e : j ≡ k). absurd (omega arith)))

pub sets_back : (l : List ℕ) (k : ℕ) (xs ys : List ℕ) → sets l k (xs ++ ys) ≡ sets (sets l (k + length xs) ys) k xs
sets_back l k [] ys = ap (λ (i : ℕ). sets l i ys) (sym (plus_zero k))
sets_back l k (x ∷ xs) ys =
    sets_back (set l k x) (suc k) xs ys
    ∙ ap (λ (m : List ℕ). sets m (suc k) xs) (ap (λ (i : ℕ). sets (set l k x) i ys) (plus_suc k (length xs)) ∙ sym (set_sets l k x (k + suc (length xs)) ys (omega arith)))

-- what comes before a run
pub get_d_sets : (l : List ℕ) (k j : ℕ) (xs : List ℕ) → j < k → get_or (sets l k xs) j 0 ≡ get_or l j 0
get_d_sets l k j [] lt = refl
get_d_sets l k j (x ∷ xs) lt = get_d_sets (set l k x) (suc k) j xs (omega arith) ∙ get_or-set_other l k j x 0 (λ (e : j ≡ k). absurd (omega arith))

-- a run over a shorter one
pub sets_over : (l : List ℕ) (k : ℕ) (xs ys : List ℕ) → length xs ≤ length ys → sets (sets l k xs) k ys ≡ sets l k ys
sets_over l k [] ys le = refl
sets_over l k (x ∷ xs) [] le = absurd (omega arith)
sets_over l k (x ∷ xs) (y ∷ ys) le =
    ap (λ (m : List ℕ). sets m (suc k) ys) (set_sets (set l k x) k y (suc k) xs (omega arith) ∙ ap (λ (m : List ℕ). sets m (suc k) xs) (set-set l k x y))
    ∙ sets_over (set l k y) (suc k) xs ys (omega arith)
