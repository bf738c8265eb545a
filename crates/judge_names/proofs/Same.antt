-- `same` of two texts: it is what `==` of slices says, and false of two lengths.
use Prim.Native.Nat.{ℕ, suc}
use mathlib.Core.Path.{◌≡◌, refl, ap, ◌∙◌}
use mathlib.Core.List.{List, [], ◌∷◌}
use mathlib.Core.Bool.{Bool, true, false, ◌&&◌}
use lib.ListN.{length}
use lib.Dec.{eqb}
use lib.Pointwise.{pointwise}
use Rattle.counts.specs.Lists.{same}

turned : (a b : Bool) → (a && b) ≡ (b && a)
turned true true = refl
turned true false = refl
turned false true = refl
turned false false = refl

pointwise_same : (a b : List ℕ) → pointwise eqb a b ≡ same a b
pointwise_same [] [] = refl
pointwise_same [] (y ∷ b) = refl
pointwise_same (x ∷ a) [] = refl
pointwise_same (x ∷ a) (y ∷ b) = turned (eqb x y) (pointwise eqb a b) ∙ ap (λ (t : Bool). t && eqb x y) (pointwise_same a b)

-- what `u == v` says, where v has the bytes w
pub same_by : (u v w : List ℕ) (t : Bool) → t ≡ pointwise eqb u v → v ≡ w → t ≡ same u w
same_by u v w t h e = h ∙ pointwise_same u v ∙ ap (same u) e

pub same_lengths : (a b : List ℕ) → (length a ≡ length b → ⊥) → same a b ≡ false
same_lengths [] [] h = absurd (h refl)
same_lengths [] (y ∷ b) h = refl
same_lengths (x ∷ a) [] h = refl
same_lengths (x ∷ a) (y ∷ b) h = ap (λ (t : Bool). t && eqb x y) (same_lengths a b (λ e. h (ap suc e)))
