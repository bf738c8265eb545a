-- The text of units: nothing, or the name in brackets.
use Prim.Native.Nat.{ℕ}
use mathlib.Core.Path.{◌≡◌, refl}
use mathlib.Core.Bool.{true, false, cond}
use mathlib.Core.List.{List, ◌∷◌, ◌++◌}
use Rattle.emit.specs.Emits.{Emits}
use Rattle.emit.proofs.Pieces.{emits_none, emits_then, emits_same}
use Rattle.type_units.specs.Units.{unit_name, unit_text, is_absent}
use Rattle.type_units.specs.declared.TimeUnits.{TimeUnits}
use Rattle.type_units.specs.declared.TimeUnits.TheVariants.{Absent, Year, Month, Week, Day, Hour, Minute, Second, Millisecond, Microsecond, Nanosecond, Picosecond, Femtosecond, Attosecond}

name_bracketed : (u : TimeUnits) (x : List ℕ) → cond (is_absent u) x (91 ∷ unit_name u ++ (93 ∷ x)) ≡ unit_text u x
name_bracketed Absent x = refl
name_bracketed Year x = refl
name_bracketed Month x = refl
name_bracketed Week x = refl
name_bracketed Day x = refl
name_bracketed Hour x = refl
name_bracketed Minute x = refl
name_bracketed Second x = refl
name_bracketed Millisecond x = refl
name_bracketed Microsecond x = refl
name_bracketed Nanosecond x = refl
name_bracketed Picosecond x = refl
name_bracketed Femtosecond x = refl
name_bracketed Attosecond x = refl

module _ (u : TimeUnits) (old : List ℕ) (at : ℕ) where
  pub units_none : is_absent u ≡ true → Emits (unit_text u) old at old at
  units_none h = emits_same (λ x. x) (unit_text u) old at old at (λ x. rw h at (name_bracketed u x)) (emits_none old at)

  pub units_some : (mid₁ : List ℕ) (p₁ : ℕ) (mid₂ : List ℕ) (p₂ : ℕ) (out : List ℕ) (q : ℕ) → is_absent u ≡ false → Emits (λ x. 91 ∷ x) old at mid₁ p₁
      → Emits (λ x. unit_name u ++ x) mid₁ p₁ mid₂ p₂ → Emits (λ x. 93 ∷ x) mid₂ p₂ out q → Emits (unit_text u) old at out q
  units_some mid₁ p₁ mid₂ p₂ out q h a b c =
      emits_same (λ x. 91 ∷ unit_name u ++ (93 ∷ x)) (unit_text u) old at out q (λ x. rw h at (name_bracketed u x))
      (emits_then (λ x. 91 ∷ unit_name u ++ x) (λ x. 93 ∷ x) old at mid₂ p₂ out q (emits_then (λ x. 91 ∷ x) (λ x. unit_name u ++ x) old at mid₁ p₁ mid₂ p₂ a b) c)
