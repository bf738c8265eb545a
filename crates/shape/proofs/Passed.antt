-- Both orders as one walk: the dimensions are visited one after the other, and the stride of each is the product of those visited before it. So a
-- shape is over (22) exactly where a product of the first k visited is, for some k up to all.
use Prim.Native.Nat.{ℕ, zero, suc, ◌+◌, ◌*◌, ◌-◌, ◌^◌, ◌<◌, ◌≤◌}
use mathlib.Core.Path.{◌≡◌, refl, ap, sym, ◌∙◌}
use mathlib.Core.Bool.{true, false, or-true}
use mathlib.Core.List.{List, [], ◌∷◌}
use native.Mathlib.Omega.{arith}
use borrow.Author.Tests.{le-leb, lt-leb}
use lib.ListN.{length, get_or, take, drop}
use lib.Seq.{drop-length, drop-cons, take-suc, take-length}
use Rattle.counts.proofs.Sides.{lt_or_ge}
use Rattle.dtype.specs.declared.Order.{Order}
use Rattle.dtype.specs.declared.Order.TheVariants.{C, Fortran}
use Rattle.dtype.specs.Shape.{product, stride, strides}
use Rattle.dtype.specs.Limits.{any_over, over_shape}
use mathlib.Core.Logic.{⊎_elim}
use Rattle.dtype.proofs.Strides.{strides_at, strides_length, product_last}
use Rattle.shape.specs.Visit.{visited}

-- each visit is of a dimension of the shape, and none is visited twice
pub visited_below : (o : Order) (n k : ℕ) → k < n → visited o n k < n
visited_below C n k h = omega arith
visited_below Fortran n k h = h

pub visited_back : (o : Order) (n k : ℕ) → k < n → visited o n (visited o n k) ≡ k
visited_back C n k h = omega arith
visited_back Fortran n k h = refl

pub visited_apart : (o : Order) (n j k : ℕ) → j < k → k < n → visited o n j ≡ visited o n k → ⊥
visited_apart C n j k l h e = omega arith
visited_apart Fortran n j k l h e = omega arith

-- the product of the first k dimensions visited
abbrev pub passed : Order → List ℕ → ℕ → ℕ
passed C s k = product (drop (length s - k) s)
passed Fortran s k = product (take k s)

pub passed_none : (o : Order) (s : List ℕ) → passed o s 0 ≡ 1
passed_none C s = let z : length s - 0 ≡ length s = omega arith in rw (z, drop-length s)
passed_none Fortran s = refl

pub passed_all : (o : Order) (s : List ℕ) → passed o s (length s) ≡ product s
passed_all C s = let z : length s - length s ≡ 0 = omega arith in rw z
passed_all Fortran s = rw (take-length s)

pub passed_next : (o : Order) (s : List ℕ) (k : ℕ) → k < length s → passed o s (k + 1) ≡ passed o s k * get_or s (visited o (length s) k) 0
passed_next C s k h =
    let i : ℕ = length s - 1 - k in
    let z : length s - (k + 1) ≡ i = omega arith in
    let y : length s - k ≡ suc i = omega arith in
    rw (z, y, drop-cons s i 0 (omega arith)) (omega arith)
passed_next Fortran s k h =
    let z : k + 1 ≡ suc k = omega arith in
    rw (z, take-suc s k 0 h) (product_last (take k s) (get_or s k 0))

-- the stride of the dimension that is visited after k others
pub stride_passed : (o : Order) (s : List ℕ) (k : ℕ) → k < length s → stride o s (visited o (length s) k) ≡ passed o s k
stride_passed C s k h = let z : suc (length s - 1 - k) ≡ length s - k = omega arith in rw z
stride_passed Fortran s k h = refl

any_over_none : (l : List ℕ) → ((i : ℕ) → i < length l → get_or l i 0 < 2 ^ 64) → any_over l ≡ false
any_over_none [] h = refl
any_over_none (n ∷ l) h = simp (lt-leb (2 ^ 64) n (h 0 (omega arith)), any_over_none l (λ i k. h (suc i) (omega arith)))

any_over_some : (l : List ℕ) (i : ℕ) → i < length l → 2 ^ 64 ≤ get_or l i 0 → any_over l ≡ true
any_over_some [] i k h = absurd (omega arith)
any_over_some (n ∷ l) zero k h = simp (le-leb (2 ^ 64) n h)
any_over_some (n ∷ l) (suc i) k h = simp (any_over_some l i (omega arith) h, or-true)

-- all products of the first visited fit: the shape is not over
pub all_fit : (o : Order) (s : List ℕ) → ((k : ℕ) → k ≤ length s → passed o s k < 2 ^ 64) → over_shape o s ≡ false
unfolding over_shape
all_fit o s h =
    let whole : product s < 2 ^ 64 = rw (passed_all o s) at (h (length s) (omega arith)) in
    let each : (i : ℕ) → i < length (strides o s) → get_or (strides o s) i 0 < 2 ^ 64 =
    λ i l.
    let l' : i < length s = omega (arith, strides_length o s) in
    let j : ℕ = visited o (length s) i in
    let b : j < length s = visited_below o (length s) i l' in
    let e : get_or (strides o s) i 0 ≡ passed o s j =
    strides_at o s i l' ∙ ap (stride o s) (sym (visited_back o (length s) i l')) ∙ stride_passed o s j b in
    rw e (h j (omega arith)) in
    simp (lt-leb (2 ^ 64) (product s) whole, any_over_none (strides o s) each)

-- one of them does not: the shape is over
pub one_over : (o : Order) (s : List ℕ) (k : ℕ) → k ≤ length s → 2 ^ 64 ≤ passed o s k → over_shape o s ≡ true
unfolding over_shape
one_over o s k l h =
    ⊎_elim
    (λ (b : k < length s).
    let i : ℕ = visited o (length s) k in
    let c : i < length s = visited_below o (length s) k b in
    let e : get_or (strides o s) i 0 ≡ passed o s k = strides_at o s i c ∙ stride_passed o s k b in
    simp (any_over_some (strides o s) i (omega (arith, strides_length o s)) (rw e h), or-true))
    (λ (b : length s ≤ k).
    let z : k ≡ length s = omega arith in
    let w : 2 ^ 64 ≤ product s = rw (passed_all o s) at (rw z at h) in
    simp (le-leb (2 ^ 64) (product s) w))
    (lt_or_ge k (length s))
