-- What reading finds, and where it ends: after its first byte and within the text.
use Prim.Native.Nat.{ℕ, ◌<◌, ◌≤◌}
use native.Mathlib.Omega.{arith}
use mathlib.Core.Path.{◌≡◌, refl}
use mathlib.Core.List.{[], ◌∷◌}
use denote.Enum.Declared.{tag_of}
use types.Run.{OneOf, miss}
use Rattle.literal_bytes.specs.contracts.Parsed.{the_type}
use Rattle.literal_bytes.specs.Got.{Got, got, fault, deep, pos, with, giving}
use Rattle.literal_bytes.specs.declared.Parsed.{Parsed}
use Rattle.literal_bytes.specs.declared.Parsed.TheVariants.{Value, Fault, Deep}

-- ---- the outcome does not see what was read
pub pos_with : {A B : Type 0} (f : ℕ → A → B) (g : Got A) → pos (with f g) ≡ pos g
unfolding with
pos_with f (got a e) = refl
pos_with f (fault p) = refl
pos_with f (deep p) = refl

pub pos_giving : {A : Type 0} (f : ℕ → A) (r : Parsed) → pos (giving f r) ≡ r
unfolding giving
pos_giving f (Value e) = refl
pos_giving f (Fault p) = refl
pos_giving f (Deep p) = refl

-- ---- a value ends after lo and not past hi
abbrev pub Ahead : ℕ → ℕ → Parsed → Type 0
Ahead lo hi (Value e) = (lo < e) × (e ≤ hi)
Ahead lo hi (Fault p) = Unit {0}
Ahead lo hi (Deep p) = Unit {0}

pub ahead_from : (lo mid hi : ℕ) (r : Parsed) → lo ≤ mid → Ahead mid hi r → Ahead lo hi r
ahead_from lo mid hi (Value e) le h = omega arith
ahead_from lo mid hi (Fault p) le h = tt
ahead_from lo mid hi (Deep p) le h = tt

-- ---- a reading that is no value, which every reader above passes on
abbrev pub Stops : Parsed → Type 0
Stops (Value e) = ⊥
Stops (Fault p) = Unit {0}
Stops (Deep p) = Unit {0}

-- what the `else` of `let Parsed::Value(e) = r else { .. }` knows of r
pub stops : (r : Parsed) → OneOf (1 ∷ 2 ∷ []) (tag_of the_type r) → Stops r
stops (Value e) h = miss (1 ∷ 2 ∷ []) 0 tt h
stops (Fault p) h = tt
stops (Deep p) h = tt
