-- 22 by the outline. In C order the count and the strides are the products of the dimensions from some place on, so the largest one without a 0 is that
-- after the last 0; Fortran order is C order of the reversed shape.
use Prim.Native.Nat.{ℕ, ◌*◌}
use native.Mathlib.Omega.{arith}
use mathlib.Core.Path.{◌≡◌, refl, sym, ap, ◌∙◌}
use mathlib.Core.List.{List, [], ◌∷◌, ◌++◌, reverse, reverse-cons}
use mathlib.Core.Bool.{Bool, true, false, ◌||◌, cond, or-false}
use lib.Dec.{eqb}
use Rattle.dtype.specs.declared.Order.{Order}
use Rattle.dtype.specs.declared.Order.TheVariants.{C, Fortran}
use Rattle.dtype.specs.Shape.{product, strides}
use Rattle.dtype.specs.Limits.{over, any_over, over_shape}
use Rattle.dtype.proofs.Strides.{strides_c, strides_reverse, product_reverse}
use Rattle.shape_verdict.specs.Outline.{before_zero, after_zero, outline_of, over_in}
use Rattle.counts.proofs.Counted.{items_test}
use Rattle.shape_verdict.proofs.Outlines.{after_last}
use Rattle.shape_verdict.proofs.Levels.{over_front}

times_one : (x : ℕ) → x * 1 ≡ x
times_one x = omega arith

-- C order
c_front : (n : ℕ) (ns : List ℕ) → (over (n * product ns) || over (after_zero ns)) ≡ over (after_zero (n ∷ ns))
c_front n ns =
    let e = over_front 1 n ns in
    ap (λ (x : ℕ). over (n * x) || over (after_zero ns)) (sym (times_one (product ns)))
    ∙ ap (λ (x : ℕ). over (n * (product ns * 1)) || over x) (sym (times_one (after_zero ns)))
    ∙ e
    ∙ ap over (times_one (after_zero (n ∷ ns)))

pub c_over : (ns : List ℕ) → over_shape C ns ≡ over (after_zero ns)
unfolding over_shape
c_over [] = or-false (over 1)
c_over (n ∷ ns) = ap (λ (l : List ℕ). over (n * product ns) || any_over l) (strides_c n ns) ∙ ap (λ (b : Bool). over (n * product ns) || b) (c_over ns) ∙ c_front n ns

-- Fortran order
any_last : (l : List ℕ) (x : ℕ) → any_over (l ++ x ∷ []) ≡ (over x || any_over l)
any_last [] x = refl
any_last (y ∷ l) x = ap (λ (b : Bool). over y || b) (any_last l x) ∙ swap (over y) (over x) (any_over l)
  where
    swap : (a b c : Bool) → (a || (b || c)) ≡ (b || (a || c))
    swap true true c = refl
    swap true false c = refl
    swap false true c = refl
    swap false false c = refl

any_reverse : (l : List ℕ) → any_over (reverse l) ≡ any_over l
any_reverse [] = refl
any_reverse (x ∷ l) = rw (reverse-cons x l) (any_last (reverse l) x ∙ ap (λ (b : Bool). over x || b) (any_reverse l))

after_reverse : (ns : List ℕ) → after_zero (reverse ns) ≡ before_zero ns
after_reverse [] = refl
after_reverse (n ∷ ns) =
    let e : before_zero ns * n ≡ n * before_zero ns = omega arith in
    rw (reverse-cons n ns) (after_last (reverse ns) n ∙ ap (λ (x : ℕ). cond (eqb n 0) 1 (x * n)) (after_reverse ns) ∙ ap (cond (eqb n 0) 1) e)

mirrored : (ns : List ℕ) → over_shape Fortran ns ≡ over_shape C (reverse ns)
unfolding over_shape
mirrored ns = rw (product_reverse ns, strides_reverse Fortran ns) (ap (λ (b : Bool). over (product ns) || b) (sym (any_reverse (strides Fortran ns))))

pub fortran_over : (ns : List ℕ) → over_shape Fortran ns ≡ over (before_zero ns)
fortran_over ns = mirrored ns ∙ c_over (reverse ns) ∙ ap over (after_reverse ns)

-- both, by the outline
pub outline_over : (o : Order) (ns : List ℕ) → over_in o (outline_of ns) ≡ over_shape o ns
unfolding outline_of
outline_over C ns = items_test (after_zero ns) ∙ sym (c_over ns)
outline_over Fortran ns = items_test (before_zero ns) ∙ sym (fortran_over ns)
