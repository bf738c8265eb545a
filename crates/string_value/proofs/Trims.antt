-- Dropping trailing zeros, at the end of a list: a zero there is dropped, and anything else stays with all before it. So a list is what is left of it and then
-- zeros, and filling up with zeros changes nothing that is left.
use Prim.Native.Nat.{ℕ, zero, suc, ◌+◌, ◌-◌, ◌<◌, ◌≤◌}
use native.Mathlib.Omega.{arith}
use mathlib.Core.Path.{◌≡◌, refl, sym, ap, ◌∙◌}
use mathlib.Core.Bool.{Bool, true, false}
use mathlib.Core.List.{List, [], ◌∷◌, ◌++◌}
use lib.Dec.{eqb}
use lib.ListN.{length, get_or, take, replicate}
use lib.Seq.{take-suc, take-length, length-take-le}
use borrow.Author.Tests.{ne_eqb}
use Rattle.string_value.specs.Elements.{before, trimmed}

pub trim_zero : (l : List ℕ) → trimmed (l ++ 0 ∷ []) ≡ trimmed l
trim_zero [] = refl
trim_zero (b ∷ l) = ap (λ (m : List ℕ). before b m) (trim_zero l)

before_some : (a : ℕ) (l : List ℕ) (b : ℕ) → before a (l ++ b ∷ []) ≡ a ∷ l ++ b ∷ []
before_some a [] b = refl
before_some a (c ∷ l) b = refl

pub trim_last : (l : List ℕ) (b : ℕ) → (b ≡ 0 → ⊥) → trimmed (l ++ b ∷ []) ≡ l ++ b ∷ []
trim_last [] b h = rw (ne_eqb b 0 h)
trim_last (a ∷ l) b h = ap (λ (m : List ℕ). before a m) (trim_last l b h) ∙ before_some a l b

trim_none : (n : ℕ) → trimmed (replicate n 0) ≡ []
trim_none zero = refl
trim_none (suc n) = ap (λ (m : List ℕ). before 0 m) (trim_none n)

pub trim_zeros : (l : List ℕ) (n : ℕ) → trimmed (l ++ replicate n 0) ≡ trimmed l
trim_zeros [] n = trim_none n
trim_zeros (b ∷ l) n = ap (λ (m : List ℕ). before b m) (trim_zeros l n)

-- what is left is the front of the list
pub trim_take : (l : List ℕ) → take (length (trimmed l)) l ≡ trimmed l
trim_take [] = refl
trim_take (b ∷ l) = go (trimmed l) (trim_take l)
  where
    one : (t : Bool) → eqb b 0 ≡ t → take (length (before b [])) (b ∷ l) ≡ before b []
    one true e = rw e
    one false e = rw e

    go : (m : List ℕ) → take (length m) l ≡ m → take (length (before b m)) (b ∷ l) ≡ before b m
    go [] e = one (eqb b 0) refl
    go (c ∷ m) e = ap (λ (x : List ℕ). b ∷ x) e

pub trim_length : (l : List ℕ) → length (trimmed l) ≤ length l
trim_length [] = omega arith
trim_length (b ∷ l) = go (trimmed l) (trim_length l)
  where
    one : (t : Bool) → eqb b 0 ≡ t → length (before b []) ≤ suc (length l)
    one true e = rw e (omega arith)
    one false e = rw e (omega arith)

    go : (m : List ℕ) → length m ≤ length l → length (before b m) ≤ suc (length l)
    go [] h = one (eqb b 0) refl
    go (c ∷ m) h = omega arith

-- ---- from the end of a run: only zeros from n on
pub record Trimming (run : List ℕ) (n : ℕ) : Type 0 where
  pub inside : n ≤ length run
  pub left : trimmed (take n run) ≡ trimmed run

pub trimming_start : (run : List ℕ) (n : ℕ) → n ≡ length run → Trimming run n
trimming_start run n e = record { inside = omega arith; left = rw (e, take-length run) }

pub trimming_more : (run : List ℕ) (n : ℕ) → 0 < n → Trimming run n → get_or run (n - 1) 0 ≡ 0 → Trimming run (n - 1)
trimming_more run zero h t z = absurd (omega arith)
trimming_more run (suc n) h t z =
    let e : suc n - 1 ≡ n = omega arith in
    let zero_at : get_or run n 0 ≡ 0 = rw e at z in
    let lt : n < length run = omega (arith, t.inside) in
    rw e
    (record {
      inside = omega arith;
      left = sym (trim_zero (take n run)) ∙ ap (λ (b : ℕ). trimmed (take n run ++ b ∷ [])) (sym zero_at) ∙ ap (λ (m : List ℕ). trimmed m) (sym (take-suc run n 0 lt)) ∙ t.left;
    })

pub trimming_stop : (run : List ℕ) (n : ℕ) → 0 < n → Trimming run n → (get_or run (n - 1) 0 ≡ 0 → ⊥) → n - 1 + 1 ≡ length (trimmed run)
trimming_stop run zero h t z = absurd (omega arith)
trimming_stop run (suc n) h t z =
    let e : suc n - 1 ≡ n = omega arith in
    let some_at : (get_or run n 0 ≡ 0 → ⊥) = λ k. z (rw e k) in
    let lt : n < length run = omega (arith, t.inside) in
    let s = take-suc run n 0 lt in
    let back : suc n - 1 + 1 ≡ suc n = omega arith in
    back
    ∙ sym (length-take-le (suc n) run t.inside)
    ∙ ap (λ (m : List ℕ). length m) (s ∙ sym (trim_last (take n run) (get_or run n 0) some_at) ∙ ap (λ (m : List ℕ). trimmed m) (sym s) ∙ t.left)

pub trimming_end : (run : List ℕ) (n : ℕ) → n ≤ 0 → Trimming run n → 0 ≡ length (trimmed run)
trimming_end run zero h t = ap (λ (m : List ℕ). length m) t.left
trimming_end run (suc n) h t = absurd (omega arith)
