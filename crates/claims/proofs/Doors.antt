-- What a door makes of a call: one law for the Rattle functions and one for the C functions (specs/Doors.antt). In C a success is the number 0, which no refusal has
-- (Numbers.antt).
use Prim.Native.Nat.{ℕ, ◌≤◌}
use native.Mathlib.Omega.{arith}
use mathlib.Core.Path.{◌≡◌, refl, sym, ap, subst, ◌∙◌}
use mathlib.Core.Bool.{Bool, true, false}
use mathlib.Core.List.{List}
use lib.Dec.{eqb}
use borrow.Author.Tests.{leb-true, eqb-true}
use Rattle.counts.specs.Outcome.{Outcome, gives, refused}
use Rattle.counts.proofs.OneOutcome.{pair_of}
use Rattle.npy_codes.specs.Codes.{Returns}
use Rattle.claims.specs.Doors.{Door, in_rattle, in_c}
use Rattle.claims.specs.Exact.{Exactly}
use Rattle.record.proofs.Numbers.{Numbered}

-- a refusal is no success
abbrev pub Fails : {B R : Type 0} → Door B R → Outcome B → Type 0
Fails door o = (n : ℕ) → o ≡ refused n → door.success (door.returned (refused n)) ≡ false

pub rattle_fails : {B : Type 0} (o : Outcome B) → Fails in_rattle o
rattle_fails o n e = refl

positive : (n : ℕ) → 1 ≤ n → eqb n 0 ≡ false
positive n h = go (eqb n 0) refl
  where
    go : (b : Bool) → eqb n 0 ≡ b → eqb n 0 ≡ false
    go true e = absurd (let z = eqb-true n 0 e in omega (arith, z, h))
    go false e = e

pub c_fails : {B : Type 0} (values : B → List ℕ) (said : List ℕ) (o : Outcome B) → Numbered o → Fails (in_c values said) o
c_fails {B} values said o h n e = let k : Numbered {A = B} (refused n) = subst Numbered e h in positive n (leb-true 1 n k.so.0)

pub c_returned : {B : Type 0} {values : B → List ℕ} {o : Outcome B} {said : List ℕ} {r : ℕ} {said' : List ℕ} → Returns values o said r said'
    → ◌≡◌ {A = ℕ × List ℕ} (r, said') ((in_c values said).returned o)
c_returned t = pair_of t.answered t.after

-- success of a call means that the outcome is a value
pub succeeded : {B R : Type 0} (door : Door B R) (o : Outcome B) (y : R) → y ≡ door.returned o → Fails door o → door.success y ≡ true → (b : B) × (o ≡ gives b)
succeeded door (gives b) y is fails s = (b, refl)
succeeded door (refused n) y is fails s = absurd (let f = fails n refl in let g = sym (ap door.success is) ∙ s in let k = sym f ∙ g in let z : ◌≡◌ {A = ℕ} 0 1 = cc in omega arith)

-- a call whose outcome is o is exact where o gives exactly the values that are due
pub exactly_by : {A B M R : Type 0} (door : Door B R) (Due : A → Type 0) (value : A → B) (store : A → M → M) (before : M) (y : R) (after : M) (o : Outcome B)
    → y ≡ door.returned o → Fails door o → ((a : A) → Due a → (o ≡ gives (value a)) × (after ≡ store a before)) → ((b : B) → o ≡ gives b → (a : A) × Due a)
    → Exactly door Due value store before y after
exactly_by door Due value store before y after o is fails due back =
    record {
      all = λ a d. let h = due a d in (is ∙ ap door.returned h.0, h.1);
      only = λ s. let g = succeeded door o y is fails s in back g.0 g.1;
    }
