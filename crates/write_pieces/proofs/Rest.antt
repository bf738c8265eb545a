-- What comes after the descr, from its values and the texts between them.
use Prim.Native.Nat.{ℕ}
use mathlib.Core.Path.{◌≡◌, refl}
use mathlib.Core.List.{List, [], ◌∷◌, ◌++◌}
use Rattle.emit.specs.Emits.{Emits}
use Rattle.emit.proofs.Pieces.{emits_then, emits_same}
use Rattle.literal_grammar.specs.Print.{escape_of, word_text, print}
use Rattle.dtype.specs.declared.Order.{Order}
use Rattle.record.specs.Layout.{shape_layout, is_fortran}
use Rattle.write_pieces.specs.Pieces.{rest_text}

abbrev order_text : List ℕ
order_text = 44 ∷ 32 ∷ 39 ∷ 102 ∷ 111 ∷ 114 ∷ 116 ∷ 114 ∷ 97 ∷ 110 ∷ 95 ∷ 111 ∷ 114 ∷ 100 ∷ 101 ∷ 114 ∷ 39 ∷ 58 ∷ 32 ∷ []

abbrev shape_text : List ℕ
shape_text = 44 ∷ 32 ∷ 39 ∷ 115 ∷ 104 ∷ 97 ∷ 112 ∷ 101 ∷ 39 ∷ 58 ∷ 32 ∷ []

abbrev end_text : List ℕ
end_text = 44 ∷ 32 ∷ 125 ∷ []

rest_text_lem : (s : List ℕ) (o : Order) (x : List ℕ) → order_text ++ word_text (is_fortran o) (shape_text ++ print (shape_layout 1 s) (end_text ++ x)) ≡ rest_text o s x
unfolding escape_of
rest_text_lem s o x = refl

module _ (s : List ℕ) (o : Order) (old : List ℕ) (at : ℕ) (m₁ : List ℕ) (p₁ : ℕ) (m₂ : List ℕ) (p₂ : ℕ) (m₃ : List ℕ) (p₃ : ℕ) (m₄ : List ℕ) (p₄ : ℕ) (out : List ℕ)
    (p : ℕ) where
  pub rest_emits : Emits (λ x. order_text ++ x) old at m₁ p₁ → Emits (word_text (is_fortran o)) m₁ p₁ m₂ p₂ → Emits (λ x. shape_text ++ x) m₂ p₂ m₃ p₃
      → Emits (print (shape_layout 1 s)) m₃ p₃ m₄ p₄ → Emits (λ x. end_text ++ x) m₄ p₄ out p → Emits (rest_text o s) old at out p
  rest_emits a b c d e =
      let f₁ : List ℕ → List ℕ = λ x. order_text ++ x in
      let f₂ : List ℕ → List ℕ = λ x. f₁ (word_text (is_fortran o) x) in
      let f₃ : List ℕ → List ℕ = λ x. f₂ (shape_text ++ x) in
      let f₄ : List ℕ → List ℕ = λ x. f₃ (print (shape_layout 1 s) x) in
      emits_same (λ x. f₄ (end_text ++ x)) (rest_text o s) old at out p (rest_text_lem s o)
      (emits_then f₄ (λ x. end_text ++ x) old at m₄ p₄ out p
      (emits_then f₃ (print (shape_layout 1 s)) old at m₃ p₃ m₄ p₄
      (emits_then f₂ (λ x. shape_text ++ x) old at m₂ p₂ m₃ p₃ (emits_then f₁ (word_text (is_fortran o)) old at m₁ p₁ m₂ p₂ a b) c) d) e)
