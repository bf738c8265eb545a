-- The array levels of a sub-shape: their sizes, how many they are, and that of all their sizes the one from after the last 0 on is the largest. So 21
-- of a field's levels is decided by the outline and the inner size alone. By recursion on the dimensions.
use Rattle.std.specs.Prelude.{Some}
use Prim.Native.Nat.{ℕ, zero, suc, ◌+◌, ◌*◌, ◌<◌, ◌≤◌, ◌^◌}
use native.Mathlib.Omega.{arith}
use native.Mathlib.Nat.{mul-suc}
use mathlib.Core.Path.{◌≡◌, refl, sym, ap, ◌∙◌}
use mathlib.Core.Logic.{⊎_elim}
use mathlib.Core.List.{List, [], ◌∷◌}
use mathlib.Core.Bool.{Bool, true, false, ◌||◌, cond, or_assoc}
use lib.ListN.{length}
use lib.Dec.{eqb, ltb}
use borrow.Author.Tests.{eqb-true, eqb-false, le-leb, lt-leb, lt-ltb, le-ltb}
use Rattle.counts.specs.Number.{number}
use Rattle.counts.specs.Counts.{items, bytes}
use Rattle.counts.proofs.Fits.{number_is}
use Rattle.counts.proofs.Sides.{lt_or_ge}
use Rattle.dtype.specs.Dtype.{Dtype, plain, array, record_of, size_of}
use Rattle.dtype.specs.Entries.{some_entry, levels, has_object}
use Rattle.dtype.specs.Shape.{product}
use Rattle.dtype.specs.Limits.{over, some_over, over_levels}
use Rattle.record.specs.Descr.{arrays}
use Rattle.shape_verdict.specs.Outline.{has_zero, after_zero, outline_of, bytes_of_items, largest_in}
use Rattle.shape_verdict.proofs.Outlines.{bytes_sized}

-- ---- products
pub zero_product : (ns : List ℕ) → has_zero ns ≡ true → product ns ≡ 0
zero_product [] h = absurd (let z : ◌≡◌ {A = ℕ} 0 1 = cc in omega arith)
zero_product (n ∷ ns) h = go (eqb n 0) refl h (zero_product ns)
  where
    go : (t : Bool) → eqb n 0 ≡ t → (t || has_zero ns) ≡ true → (has_zero ns ≡ true → product ns ≡ 0) → n * product ns ≡ 0
    go true e h ih = ap (λ (x : ℕ). x * product ns) (eqb-true n 0 e) ∙ omega arith
    go false e h ih = ap (λ (x : ℕ). n * x) (ih h) ∙ omega arith

pub after_product : (ns : List ℕ) → has_zero ns ≡ false → after_zero ns ≡ product ns
after_product [] h = refl
after_product (n ∷ ns) h = ap (λ (t : Bool). cond t (after_zero ns) (n * after_zero ns)) h ∙ go (eqb n 0) h (after_product ns)
  where
    go : (t : Bool) → (t || has_zero ns) ≡ false → (has_zero ns ≡ false → after_zero ns ≡ product ns) → n * after_zero ns ≡ n * product ns
    go true h ih = absurd (let z : ◌≡◌ {A = ℕ} 0 1 = cc in omega arith)
    go false h ih = ap (λ (x : ℕ). n * x) (ih h)

-- of two sizes the larger one decides
over_larger : (x y : ℕ) → x ≤ y → (over y || over x) ≡ over y
over_larger x y l =
    ⊎_elim
    (λ (h : y < 2 ^ 64). rw (lt-leb (2 ^ 64) y h, lt-leb (2 ^ 64) x (omega arith)))
    (λ (h : 2 ^ 64 ≤ y). rw (le-leb (2 ^ 64) y h))
    (lt_or_ge y (2 ^ 64))

times_more : (n x : ℕ) → (n ≡ 0 → ⊥) → x ≤ n * x
times_more zero x h = absurd (h refl)
times_more (suc n) x h = omega (arith, mul-suc x n)

-- one dimension more in front, each size being so many times s
pub over_front : (s n : ℕ) (ns : List ℕ) → (over (n * (product ns * s)) || over (after_zero ns * s)) ≡ over (after_zero (n ∷ ns) * s)
over_front s n ns = go (has_zero (n ∷ ns)) refl
  where
    nonzero : (t : Bool) → eqb n 0 ≡ t → (t || has_zero ns) ≡ false → (n ≡ 0 → ⊥) × (has_zero ns ≡ false)
    nonzero true e h = absurd (let z : ◌≡◌ {A = ℕ} 0 1 = cc in omega arith)
    nonzero false e h = (eqb-false n 0 e, h)

    go : (t : Bool) → has_zero (n ∷ ns) ≡ t → (over (n * (product ns * s)) || over (after_zero ns * s)) ≡ over (cond t (after_zero ns) (n * after_zero ns) * s)
    go true h =
        let z : n * (product ns * s) ≡ 0 = omega (arith, ap (λ (x : ℕ). x * s) (zero_product (n ∷ ns) h)) in
        rw z
    go false h =
        let k = nonzero (eqb n 0) refl h in
        let e : n * product ns * s ≡ n * (product ns * s) = omega arith in
        rw (after_product ns k.1, e) (over_larger (product ns * s) (n * (product ns * s)) (times_more n (product ns * s) k.0))

-- ---- the levels of a sub-shape
pub arrays_size : (ns : List ℕ) (d : Dtype) → size_of (arrays ns d) ≡ product ns * size_of d
arrays_size [] d = omega arith
arrays_size (n ∷ ns) d = ap (λ (x : ℕ). n * x) (arrays_size ns d) ∙ omega arith

-- by the outline: a 0 anywhere makes the size 0
pub arrays_outline : (ns : List ℕ) (d : Dtype) → size_of (arrays ns d) ≡ cond (has_zero ns) 0 (after_zero ns * size_of d)
arrays_outline ns d = arrays_size ns d ∙ go (has_zero ns) refl
  where
    go : (t : Bool) → has_zero ns ≡ t → product ns * size_of d ≡ cond t 0 (after_zero ns * size_of d)
    go true h = ap (λ (x : ℕ). x * size_of d) (zero_product ns h) ∙ omega arith
    go false h = ap (λ (x : ℕ). x * size_of d) (sym (after_product ns h))

absorbed : (a b : Bool) → (a || (a || b)) ≡ (a || b)
absorbed true b = refl
absorbed false b = refl

-- what a test says of a dtype itself, some entry passes
own : (test : Dtype → Bool) (d : Dtype) → (test d || some_entry test d) ≡ some_entry test d
own test (plain t) = twice (test (plain t))
  where
    twice : (b : Bool) → (b || b) ≡ b
    twice true = refl
    twice false = refl
own test (array n d) = absorbed (test (array n d)) (some_entry test d)
own test (record_of fs) = absorbed (test (record_of fs)) _

-- 21: "some entry's size over 2^64-1"
pub arrays_over : (ns : List ℕ) (d : Dtype) → some_over (arrays ns d) ≡ (over (after_zero ns * size_of d) || some_over d)
arrays_over [] d =
    let e : 1 * size_of d ≡ size_of d = omega arith in
    rw e (sym (own (λ x. over (size_of x)) d))
arrays_over (n ∷ ns) d =
    rw (arrays_over ns d, arrays_size ns d)
    (sym (or_assoc (over (n * (product ns * size_of d))) (over (after_zero ns * size_of d)) (some_over d)) ∙ ap (λ (b : Bool). b || some_over d) (over_front (size_of d) n ns))

-- both by the outline and the inner size alone
pub largest_is : (ns : List ℕ) (s : ℕ) → largest_in (outline_of ns) s ≡ bytes (number (after_zero ns * s))
unfolding largest_in outline_of
largest_is ns s = go (eqb s 0) refl
  where
    go : (t : Bool) → eqb s 0 ≡ t → cond t (Some (record { 0 = 0 })) (bytes_of_items (items (number (after_zero ns))) s) ≡ bytes (number (after_zero ns * s))
    go true h =
        let z : after_zero ns * s ≡ 0 = ap (λ (x : ℕ). after_zero ns * x) (eqb-true s 0 h) ∙ omega arith in
        sym (ap (λ (x : ℕ). bytes (number x)) z ∙ ap bytes (number_is 0 (omega arith)))
    go false h = sym (bytes_sized (after_zero ns) s h)

-- 13: the outermost level has the most levels below it
pub arrays_levels : (ns : List ℕ) (d : Dtype) → levels (arrays ns d) ≡ length ns + levels d
arrays_levels [] d = omega arith
arrays_levels (n ∷ ns) d = ap suc (arrays_levels ns d) ∙ omega arith

more_levels : (a : ℕ) (b : Bool) → (ltb 32 (suc a) || (ltb 32 a || b)) ≡ (ltb 32 (suc a) || b)
more_levels a b =
    ⊎_elim
    (λ (h : 32 < suc a). rw (lt-ltb 32 (suc a) h))
    (λ (h : suc a ≤ 32). rw (le-ltb 32 (suc a) h, le-ltb 32 a (omega arith)))
    (lt_or_ge 32 (suc a))

pub arrays_wide : (ns : List ℕ) (d : Dtype) → over_levels (arrays ns d) ≡ (ltb 32 (length ns + levels d) || over_levels d)
arrays_wide [] d =
    let e : 0 + levels d ≡ levels d = omega arith in
    rw e (sym (own (λ x. ltb 32 (levels x)) d))
arrays_wide (n ∷ ns) d =
    let e : suc (length ns) + levels d ≡ suc (length ns + levels d) = omega arith in
    rw (arrays_wide ns d, arrays_levels ns d, e) (more_levels (length ns + levels d) (over_levels d))

-- what levels leave as it is
pub arrays_object : (ns : List ℕ) (d : Dtype) → has_object (arrays ns d) ≡ has_object d
arrays_object [] d = refl
arrays_object (n ∷ ns) d = arrays_object ns d
