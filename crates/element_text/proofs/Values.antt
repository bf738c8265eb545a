-- The texts of values: each by the cases of the value.
use Prim.Native.Nat.{ℕ}
use mathlib.Core.Path.{◌≡◌, sym, subst}
use mathlib.Core.Bool.{Bool as Truth, true, false, cond}
use mathlib.Core.List.{List, ◌∷◌, ◌++◌}
use lib.Dec.{eqb}
use Rattle.emit.specs.Emits.{Emits}
use Rattle.emit.proofs.Pieces.{emits_then, emits_byte}
use Rattle.element_text.proofs.Pieces.{emits_if, emits_else}
use Rattle.element_text.specs.Floats.{exponent_text, shown_exponent, finite_text, unsigned_text, parts_text}
use Rattle.element_text.specs.Hexadecimal.{hex_digits}
use Rattle.value.specs.declared.Value.{Value}
use Rattle.element_text.specs.Text.{truth_text, value_text}
use Rattle.element_text.specs.declared.Parts.{Parts}

pub truth_is : (t b : Truth) (old out : List ℕ) (p : ℕ) → t ≡ b → Emits (λ x. 98 ∷ 111 ∷ 111 ∷ 108 ∷ 32 ∷ truth_text t x) old 0 out p
    → Emits (λ x. 98 ∷ 111 ∷ 111 ∷ 108 ∷ 32 ∷ truth_text b x) old 0 out p
truth_is t b old out p e h = subst (λ (u : Truth). Emits (λ x. 98 ∷ 111 ∷ 111 ∷ 108 ∷ 32 ∷ truth_text u x) old 0 out p) e h

-- ---- floats
module _ (p : Parts) (old : List ℕ) (at : ℕ) (out : List ℕ) (q : ℕ) where
  pub float_positive : p.negative ≡ false → Emits (unsigned_text p) old at out q → Emits (parts_text p) old at out q
  unfolding parts_text
  float_positive e h = emits_else (λ x. 45 ∷ unsigned_text p x) (unsigned_text p) p.negative old at out q e h

  pub float_negative : (mid : List ℕ) (m : ℕ) → p.negative ≡ true → Emits (λ x. 45 ∷ x) old at mid m → Emits (unsigned_text p) mid m out q → Emits (parts_text p) old at out q
  unfolding parts_text
  float_negative mid m e a b =
      emits_if (λ x. 45 ∷ unsigned_text p x) (unsigned_text p) p.negative old at out q e (emits_then (λ x. 45 ∷ x) (unsigned_text p) old at mid m out q a b)

-- the parts of a number that is finite
module _ (p : Parts) (old : List ℕ) (at : ℕ) (m₁ : List ℕ) (p₁ : ℕ) (m₂ : List ℕ) (p₂ : ℕ) (m₃ : List ℕ) (p₃ : ℕ) (m₄ : List ℕ) (p₄ : ℕ) (m₅ : List ℕ) (p₅ : ℕ) (out : List ℕ) (q : ℕ) where
  pub finite_parts : {lead shown : ℕ} → Emits (λ x. 48 ∷ 120 ∷ x) old at m₁ p₁ → lead ≡ cond (eqb p.exponent 0) 48 49 → Emits (λ x. lead ∷ x) m₁ p₁ m₂ p₂ → Emits (λ x. 46 ∷ x) m₂ p₂ m₃ p₃
      → Emits (hex_digits p.digits p.filled) m₃ p₃ m₄ p₄ → Emits (λ x. 112 ∷ x) m₄ p₄ m₅ p₅ → shown ≡ shown_exponent p → Emits (exponent_text p.bias shown) m₅ p₅ out q
      → Emits (finite_text p) old at out q
  finite_parts a e b c d f g h =
      let lead : ℕ = cond (eqb p.exponent 0) 48 49 in
      let b' = emits_byte _ _ m₁ p₁ m₂ p₂ e b in
      let h' = subst (λ (n : ℕ). Emits (exponent_text p.bias n) m₅ p₅ out q) g h in
      emits_then (λ x. 48 ∷ 120 ∷ lead ∷ 46 ∷ hex_digits p.digits p.filled (112 ∷ x)) (exponent_text p.bias (shown_exponent p)) old at m₅ p₅ out q
      (emits_then (λ x. 48 ∷ 120 ∷ lead ∷ 46 ∷ hex_digits p.digits p.filled x) (λ x. 112 ∷ x) old at m₄ p₄ m₅ p₅
      (emits_then (λ x. 48 ∷ 120 ∷ lead ∷ 46 ∷ x) (hex_digits p.digits p.filled) old at m₃ p₃ m₄ p₄
      (emits_then (λ x. 48 ∷ 120 ∷ lead ∷ x) (λ x. 46 ∷ x) old at m₂ p₂ m₃ p₃ (emits_then (λ x. 48 ∷ 120 ∷ x) (λ x. lead ∷ x) old at m₁ p₁ m₂ p₂ a b') c) d) f)
      h'

-- ---- a value by its kind
pub value_is : {v w : Value} {old out : List ℕ} {p : ℕ} → v ≡ w → Emits (value_text w) old 0 out p → Emits (value_text v) old 0 out p
value_is {old = old} {out = out} {p = p} e h = subst (λ (u : Value). Emits (value_text u) old 0 out p) (sym e) h

-- one float after a word, and two, by their parts
pub one_float : (word : List ℕ) (r f : Parts) (old out : List ℕ) (p : ℕ) → r ≡ f → Emits (λ x. word ++ parts_text r x) old 0 out p → Emits (λ x. word ++ parts_text f x) old 0 out p
one_float word r f old out p e h = subst (λ (u : Parts). Emits (λ x. word ++ parts_text u x) old 0 out p) e h

pub two_floats : (word : List ℕ) (r f s g : Parts) (old out : List ℕ) (p : ℕ) → r ≡ f → s ≡ g → Emits (λ x. word ++ parts_text r (32 ∷ parts_text s x)) old 0 out p
    → Emits (λ x. word ++ parts_text f (32 ∷ parts_text g x)) old 0 out p
two_floats word r f s g old out p e d h =
    subst (λ (u : Parts). Emits (λ x. word ++ parts_text f (32 ∷ parts_text u x)) old 0 out p) d (subst (λ (u : Parts). Emits (λ x. word ++ parts_text u (32 ∷ parts_text s x)) old 0 out p) e h)
