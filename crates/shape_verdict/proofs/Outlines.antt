-- The outline of dimensions, one dimension after the other: what is after the last 0 begins anew at a 0, and what is before the first 0 is left as it
-- is from then on. A product that is over stays over, for no factor of it is 0.
use Rattle.refusal.specs.Answers.{answer}
use Rattle.refusal.specs.declared.Refusal.{Refusal}
use Rattle.counts.specs.declared.Items.{Items}
use Rattle.std.specs.Prelude.{Err, Ok, Some, Option, Result}
use Prim.Native.Nat.{ℕ, zero, suc, ◌+◌, ◌*◌, ◌-◌, ◌<◌, ◌≤◌, ◌^◌}
use native.Mathlib.Omega.{arith}
use native.Mathlib.Nat.{mul-suc}
use mathlib.Core.Path.{◌≡◌, refl, sym, ap, ◌∙◌}
use mathlib.Core.Logic.{⊎_elim}
use mathlib.Core.List.{List, [], ◌∷◌, ◌++◌, append-nil, append_assoc}
use mathlib.Core.Bool.{Bool, true, false, ◌||◌, cond, or-true, or_assoc, or-false}
use lib.ListN.{length-append}
use lib.Dec.{eqb}
use borrow.Author.Tests.{eqb-false, eq-eqb, ne_eqb}
use Rattle.counts.specs.Number.{number, capped}
use Rattle.counts.specs.Counts.{items, bytes}
use Rattle.counts.proofs.Fits.{number_is, number_over}
use Rattle.counts.specs.Outcome.{Outcome, gives, refused, then, each}
use Rattle.counts.proofs.Sides.{lt_or_ge}
use Rattle.shape_verdict.specs.declared.Outline.{Outline}
use Rattle.shape_verdict.specs.Answer.{rank_of}
use Rattle.shape_verdict.specs.Outline.{has_zero, before_zero, after_zero, outline_of, scaled_by, bytes_of_items, extended_to, extended_by, extends, extended_capped}

-- a product that fits or is over, where the new factor is not 0
large : (a : ℕ) → 2 ^ 64 ≤ a → (m : ℕ) → (m ≡ 0 → ⊥) → 2 ^ 64 ≤ a * m
large a l zero z = absurd (z refl)
large a l (suc m) z = omega (arith, mul-suc a m)

pub items_scaled : (a n : ℕ) → eqb n 0 ≡ false → items (number (a * n)) ≡ scaled_by (items (number a)) n
unfolding scaled_by
items_scaled a n h =
    let e : a * n ≡ n * a = omega arith in
    ⊎_elim
    (λ (l : a < 2 ^ 64). rw (number_is a l) (ap (λ (x : ℕ). items (number x)) e))
    (λ (l : 2 ^ 64 ≤ a). rw (number_over a l) (ap items (number_over (a * n) (large a l n (eqb-false n 0 h)))))
    (lt_or_ge a (2 ^ 64))

pub bytes_sized : (a s : ℕ) → eqb s 0 ≡ false → bytes (number (a * s)) ≡ bytes_of_items (items (number a)) s
unfolding bytes_of_items
bytes_sized a s h =
    ⊎_elim
    (λ (l : a < 2 ^ 64). rw (number_is a l))
    (λ (l : 2 ^ 64 ≤ a). rw (number_over a l) (ap bytes (number_over (a * s) (large a l s (eqb-false s 0 h)))))
    (lt_or_ge a (2 ^ 64))

pub zero_last : (us : List ℕ) (n : ℕ) → has_zero (us ++ n ∷ []) ≡ (has_zero us || eqb n 0)
zero_last [] n = or-false (eqb n 0)
zero_last (m ∷ us) n = ap (λ (b : Bool). eqb m 0 || b) (zero_last us n) ∙ sym (or_assoc (eqb m 0) (has_zero us) (eqb n 0))

pub before_last : (us : List ℕ) (n : ℕ) → before_zero (us ++ n ∷ []) ≡ cond (has_zero us || eqb n 0) (before_zero us) (before_zero us * n)
before_last [] n = ap (cond (eqb n 0) 1) (omega arith)
before_last (m ∷ us) n = rw (or_assoc (eqb m 0) (has_zero us) (eqb n 0)) (go (eqb m 0) (has_zero us || eqb n 0) (before_last us n))
  where
    go : (z b : Bool) → before_zero (us ++ n ∷ []) ≡ cond b (before_zero us) (before_zero us * n)
        → cond z 1 (m * before_zero (us ++ n ∷ [])) ≡ cond (z || b) (cond z 1 (m * before_zero us)) (cond z 1 (m * before_zero us) * n)
    go true b ih = refl
    go false true ih = ap (λ (x : ℕ). m * x) ih
    go false false ih = ap (λ (x : ℕ). m * x) ih ∙ omega arith

pub after_last : (us : List ℕ) (n : ℕ) → after_zero (us ++ n ∷ []) ≡ cond (eqb n 0) 1 (after_zero us * n)
after_last [] n = go (eqb n 0)
  where
    go : (z : Bool) → cond (z || false) 1 (n * 1) ≡ cond z 1 (1 * n)
    go true = refl
    go false = omega arith
after_last (m ∷ us) n = rw (zero_last us n, after_last us n) (go (eqb m 0) (has_zero us) (eqb n 0))
  where
    go : (z b y : Bool)
        → cond (z || (b || y)) (cond y 1 (after_zero us * n)) (m * cond y 1 (after_zero us * n)) ≡ cond y 1 (cond (z || b) (after_zero us) (m * after_zero us) * n)
    go true b true = refl
    go true b false = refl
    go false true true = refl
    go false true false = refl
    go false false true = refl
    go false false false = omega arith

outline_eq : {r r' : ℕ} {e e' : Bool} {a a' b b' : _} → r ≡ r' → e ≡ e' → a ≡ a' → b ≡ b'
    → ◌≡◌ {A = Outline} (record { rank = r; empty = e; before = a; after = b }) (record { rank = r'; empty = e'; before = a'; after = b' })
outline_eq hr he ha hb = cc

-- one dimension more
pub outline_last : (us : List ℕ) (n : ℕ) → outline_of (us ++ n ∷ []) ≡ extended_by (outline_of us) n
unfolding outline_of extended_to
outline_last us n = outline_eq (length-append us (n ∷ [])) (zero_last us n) (ap (λ (x : ℕ). items (number x)) (before_last us n) ∙ before (has_zero us) (eqb n 0) refl) (ap (λ (x : ℕ). items (number x)) (after_last us n) ∙ after (eqb n 0) refl)
  where
    before : (b z : Bool) → eqb n 0 ≡ z
        → items (number (cond (b || z) (before_zero us) (before_zero us * n))) ≡ cond (b || z) (items (number (before_zero us))) (scaled_by (items (number (before_zero us))) n)
    before true z h = refl
    before false true h = refl
    before false false h = items_scaled (before_zero us) n h

    after : (z : Bool) → eqb n 0 ≡ z → items (number (cond z 1 (after_zero us * n))) ≡ cond z (Some (record { 0 = 1 })) (scaled_by (items (number (after_zero us))) n)
    after true h = ap items (number_is 1 (omega arith))
    after false h = items_scaled (after_zero us) n h

-- by whether the new dimension is 0, and whether one before it is
module _ (k : ℕ) (o : Outline) (n : ℕ) where
  pub extended_zero : n ≡ 0 → record { rank = k; empty = true; before = o.before; after = Some (record { 0 = 1 }) } ≡ extended_to k o n
  unfolding extended_to
  extended_zero h = rw (eq-eqb n 0 h, or-true o.empty)

  pub extended_empty : (b : Option Items) → (n ≡ 0 → ⊥) → o.empty ≡ true → b ≡ scaled_by o.after n → record { rank = k; empty = true; before = o.before; after = b } ≡ extended_to k o n
  unfolding extended_to
  extended_empty b h e hb = rw (ne_eqb n 0 h, e, hb)

  pub extended_more : (a b : Option Items) → (n ≡ 0 → ⊥) → o.empty ≡ false → a ≡ scaled_by o.before n → b ≡ scaled_by o.after n
      → record { rank = k; empty = false; before = a; after = b } ≡ extended_to k o n
  unfolding extended_to
  extended_more a b h e ha hb = rw (ne_eqb n 0 h, e, ha, hb)

-- ---- dimension after dimension
extends_from : (us ns : List ℕ) → extends (outline_of us) ns ≡ outline_of (us ++ ns)
extends_from us [] = ap outline_of (sym (append-nil us))
extends_from us (n ∷ ns) =
    ap (λ (o : Outline). extends o ns) (sym (outline_last us n)) ∙ extends_from (us ++ n ∷ []) ns ∙ ap outline_of (append_assoc us (n ∷ []) ns)

pub outline_whole : (ns : List ℕ) → outline_of ns ≡ extends (outline_of []) ns
outline_whole ns = sym (extends_from [] ns)

-- a good verdict and a dimension
pub joined_good : (v : Result Outline Refusal) (m : Result ℕ Refusal) (o r : Outline) (n : ℕ) → v ≡ Ok o → m ≡ Ok n → r ≡ extended_capped o n
    → gives r ≡ then (answer v) (λ o. each (extended_capped o) (answer m))
joined_good v m o r n hv hm hr = rw (hv, hm) (ap gives hr)

-- below 2^64-1 the rank that is held is the rank
pub joined_below : (v : Result Outline Refusal) (m : Outcome ℕ) → rank_of v < 2 ^ 64 - 1 → then (answer v) (λ o. each (extended_capped o) m) ≡ then (answer v) (λ o. each (extended_by o) m)
joined_below (Ok o) (gives n) lt =
    let e : capped (o.rank + 1) ≡ o.rank + 1 = omega arith in
    ap (λ (k : ℕ). gives (extended_to k o n)) e
joined_below (Ok o) (refused n) lt = refl
joined_below (Err why) m lt = refl
