-- The table, read both ways, and which texts are no units.
use Prim.Native.Nat.{ℕ}
use mathlib.Core.Path.{◌≡◌, refl}
use mathlib.Core.Bool.{true, and-false}
use mathlib.Core.List.{List, [], ◌∷◌}
use lib.ListN.{length, get_or}
use native.Mathlib.Omega.{arith}
use borrow.Author.Tests.{ne_eqb}
use Rattle.counts.specs.Outcome.{Outcome, gives, refused}
use Rattle.counts.specs.Lists.{same}
use Rattle.counts.proofs.Alike.{same_equal}
use Rattle.counts.proofs.Holds.{Holds}
use Rattle.type_letters.proofs.Tables.{first_passes}
use Rattle.type_units.specs.Units.{unit_text, units, units_of}
use Rattle.type_units.specs.declared.TimeUnits.{TimeUnits}
use Rattle.type_units.specs.declared.TimeUnits.TheVariants.{Absent, Year, Month, Week, Day, Hour, Minute, Second, Millisecond, Microsecond, Nanosecond, Picosecond, Femtosecond, Attosecond}

-- ---- each spelling is read as its case
pub units_spelled : (u : TimeUnits) → units_of (unit_text u []) ≡ gives u
unfolding units_of
units_spelled Absent = refl
units_spelled Year = refl
units_spelled Month = refl
units_spelled Week = refl
units_spelled Day = refl
units_spelled Hour = refl
units_spelled Minute = refl
units_spelled Second = refl
units_spelled Millisecond = refl
units_spelled Microsecond = refl
units_spelled Nanosecond = refl
units_spelled Picosecond = refl
units_spelled Femtosecond = refl
units_spelled Attosecond = refl

-- ---- and only its spelling
pub units_read : (s : List ℕ) → Holds (λ u. s ≡ unit_text u []) (units_of s)
unfolding units_of
units_read s = go (units_of s) (first_passes (λ u. same s (unit_text u [])) units)
  where
    go : (u : Outcome TimeUnits) → Holds (λ u. same s (unit_text u []) ≡ true) u → Holds (λ u. s ≡ unit_text u []) u
    go (gives u) h = same_equal s (unit_text u []) h
    go (refused n) h = tt

-- ---- texts that are no units
pub no_open : (a : ℕ) (s : List ℕ) → (a ≡ 91 → ⊥) → units_of (a ∷ s) ≡ refused 15
unfolding units_of
no_open a s h = simp (units_of, ne_eqb a 91 h, and-false)

pub no_s_two : (a b c d : ℕ) → (c ≡ 115 → ⊥) → units_of (a ∷ b ∷ c ∷ d ∷ []) ≡ refused 15
unfolding units_of
no_s_two a b c d h = simp (units_of, ne_eqb c 115 h, and-false)

pub no_letter_one : (a b c : ℕ) → (b ≡ 89 → ⊥) → (b ≡ 77 → ⊥) → (b ≡ 87 → ⊥) → (b ≡ 68 → ⊥) → (b ≡ 104 → ⊥) → (b ≡ 109 → ⊥) → (b ≡ 115 → ⊥)
    → units_of (a ∷ b ∷ c ∷ []) ≡ refused 15
unfolding units_of
no_letter_one a b c p q r s t u v = simp (units_of, ne_eqb b 89 p, ne_eqb b 77 q, ne_eqb b 87 r, ne_eqb b 68 s, ne_eqb b 104 t, ne_eqb b 109 u, ne_eqb b 115 v, and-false)

pub no_letter_two : (a b c d : ℕ) → (b ≡ 109 → ⊥) → (b ≡ 117 → ⊥) → (b ≡ 110 → ⊥) → (b ≡ 112 → ⊥) → (b ≡ 102 → ⊥) → (b ≡ 97 → ⊥)
    → units_of (a ∷ b ∷ c ∷ d ∷ []) ≡ refused 15
unfolding units_of
no_letter_two a b c d p q r s t u = simp (units_of, ne_eqb b 109 p, ne_eqb b 117 q, ne_eqb b 110 r, ne_eqb b 112 s, ne_eqb b 102 t, ne_eqb b 97 u, and-false)

-- a text of another length is none
pub no_units : (s : List ℕ) → (length s ≡ 0 → ⊥) → (length s ≡ 3 → ⊥) → (length s ≡ 4 → ⊥) → units_of s ≡ refused 15
unfolding units_of
no_units [] p q r = absurd (p refl)
no_units (a ∷ []) p q r = refl
no_units (a ∷ b ∷ []) p q r = refl
no_units (a ∷ b ∷ c ∷ []) p q r = absurd (q refl)
no_units (a ∷ b ∷ c ∷ d ∷ []) p q r = absurd (r refl)
no_units (a ∷ b ∷ c ∷ d ∷ e ∷ s) p q r = refl

-- a text of three or four bytes is those bytes
pub three_bytes : (s : List ℕ) → length s ≡ 3 → s ≡ get_or s 0 0 ∷ get_or s 1 0 ∷ get_or s 2 0 ∷ []
three_bytes [] h = absurd (omega arith)
three_bytes (a ∷ []) h = absurd (omega arith)
three_bytes (a ∷ b ∷ []) h = absurd (omega arith)
three_bytes (a ∷ b ∷ c ∷ []) h = refl
three_bytes (a ∷ b ∷ c ∷ d ∷ s) h = absurd (omega arith)

pub four_bytes : (s : List ℕ) → length s ≡ 4 → s ≡ get_or s 0 0 ∷ get_or s 1 0 ∷ get_or s 2 0 ∷ get_or s 3 0 ∷ []
four_bytes [] h = absurd (omega arith)
four_bytes (a ∷ []) h = absurd (omega arith)
four_bytes (a ∷ b ∷ []) h = absurd (omega arith)
four_bytes (a ∷ b ∷ c ∷ []) h = absurd (omega arith)
four_bytes (a ∷ b ∷ c ∷ d ∷ []) h = refl
four_bytes (a ∷ b ∷ c ∷ d ∷ e ∷ s) h = absurd (omega arith)
