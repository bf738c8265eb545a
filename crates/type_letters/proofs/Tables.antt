-- Lookup in a table of spellings.
use mathlib.Core.Path.{◌≡◌, refl}
use mathlib.Core.Bool.{Bool, true, false, cond}
use mathlib.Core.List.{List, [], ◌∷◌}
use Rattle.counts.specs.Outcome.{gives}
use Rattle.counts.proofs.Holds.{Holds}
use Rattle.type_letters.specs.Letters.{first_of}

-- the case that a lookup gives passes its test
pub first_passes : {A : Type 0} (test : A → Bool) (cases : List A) → Holds (λ a. test a ≡ true) (first_of test cases)
first_passes test [] = tt
first_passes test (a ∷ more) = go (test a) refl (first_passes test more)
  where
    go : (b : Bool) → test a ≡ b → Holds (λ c. test c ≡ true) (first_of test more) → Holds (λ c. test c ≡ true) (cond b (gives a) (first_of test more))
    go true e h = e
    go false e h = h
