-- A byte as it is spelled, a name in its quotes and a shape in its brackets, each from the pieces that the code puts.
use Prim.Native.Nat.{ℕ, zero, suc, ◌<◌}
use native.Mathlib.Omega.{arith}
use mathlib.Core.Path.{◌≡◌, refl, sym, ap, subst}
use mathlib.Core.List.{List, [], ◌∷◌, ◌++◌}
use Rattle.decimal.specs.Decimal.{printed}
use Rattle.emit.specs.Emits.{Emits}
use Rattle.emit.proofs.Pieces.{emits_then, emits_same}
use Rattle.literal_grammar.specs.Print.{escape_of, spelled_byte, print, print_row}
use Rattle.record.specs.Layout.{dimension_row, shape_layout}
use Rattle.write_pieces.specs.Pieces.{numbers_between}

pub spelled_raw : (b : ℕ) (old : List ℕ) (at : ℕ) (out : List ℕ) (p : ℕ) → escape_of b ≡ 0 → Emits (λ x. b ∷ x) old at out p
    → Emits (spelled_byte (escape_of b) b) old at out p
spelled_raw b old at out p z h = subst (λ (c : ℕ). Emits (spelled_byte c b) old at out p) (sym z) h

pub spelled_escape : (b e : ℕ) (old : List ℕ) (at : ℕ) (mid : List ℕ) (p : ℕ) (out : List ℕ) (q : ℕ) → 0 < e → escape_of b ≡ e
    → Emits (λ x. 92 ∷ x) old at mid p → Emits (λ x. e ∷ x) mid p out q → Emits (spelled_byte (escape_of b) b) old at out q
spelled_escape b zero old at mid p out q n e h k = absurd (omega arith)
spelled_escape b (suc c) old at mid p out q n e h k =
    subst (λ (i : ℕ). Emits (spelled_byte i b) old at out q) (sym e) (emits_then (λ x. 92 ∷ x) (λ x. suc c ∷ x) old at mid p out q h k)

-- a piece between two bytes
pub between : (a b : ℕ) (f : List ℕ → List ℕ) (old : List ℕ) (at : ℕ) (m₁ : List ℕ) (p₁ : ℕ) (m₂ : List ℕ) (p₂ : ℕ) (out : List ℕ) (q : ℕ)
    → Emits (λ x. a ∷ x) old at m₁ p₁ → Emits f m₁ p₁ m₂ p₂ → Emits (λ x. b ∷ x) m₂ p₂ out q → Emits (λ x. a ∷ f (b ∷ x)) old at out q
between a b f old at m₁ p₁ m₂ p₂ out q h k l =
    emits_then (λ x. a ∷ f x) (λ x. b ∷ x) old at m₂ p₂ out q (emits_then (λ x. a ∷ x) f old at m₁ p₁ m₂ p₂ h k) l

-- dimensions in their brackets
row_text : (s x : List ℕ) → numbers_between [] (44 ∷ 32 ∷ []) s x ≡ print_row (dimension_row 1 s) x
row_text [] x = refl
row_text (n ∷ s) x = ap (λ (y : List ℕ). printed n (44 ∷ 32 ∷ y)) (row_text s x)

shape_text : (s x : List ℕ) → 40 ∷ numbers_between [] (44 ∷ 32 ∷ []) s (41 ∷ x) ≡ print (shape_layout 1 s) x
shape_text [] x = refl
shape_text (n ∷ s) x = ap (λ (y : List ℕ). 40 ∷ y) (row_text (n ∷ s) (41 ∷ x))

pub shape_emits : (s old : List ℕ) (at : ℕ) (out : List ℕ) (p : ℕ) → Emits (λ x. 40 ∷ numbers_between [] (44 ∷ 32 ∷ []) s (41 ∷ x)) old at out p
    → Emits (print (shape_layout 1 s)) old at out p
shape_emits s old at out p h = emits_same (λ x. 40 ∷ numbers_between [] (44 ∷ 32 ∷ []) s (41 ∷ x)) (print (shape_layout 1 s)) old at out p (shape_text s) h

-- what the loops put for one byte and for one number
abbrev pub spelled_as : ℕ → List ℕ → List ℕ
spelled_as b x = spelled_byte (escape_of b) b x

abbrev pub one_between : (before after : List ℕ) → ℕ → List ℕ → List ℕ
one_between before after n x = before ++ printed n (after ++ x)
