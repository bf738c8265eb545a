-- The dict's text from its descr and what is put before and after it.
use Prim.Native.Nat.{ℕ}
use mathlib.Core.Path.{◌≡◌, refl}
use mathlib.Core.List.{List, [], ◌∷◌, ◌++◌}
use Rattle.emit.specs.Emits.{Emits}
use Rattle.emit.proofs.Pieces.{emits_then, emits_same}
use Rattle.literal_grammar.specs.Print.{escape_of, print}
use Rattle.dtype.specs.declared.Order.{Order}
use Rattle.dtype.specs.Dtype.{Dtype}
use Rattle.record.specs.Layout.{descr_layout, header_layout}
use Rattle.check_record.specs.Valid.{made}
use Rattle.write_pieces.specs.Pieces.{rest_text}

abbrev key_text : List ℕ
key_text = 123 ∷ 39 ∷ 100 ∷ 101 ∷ 115 ∷ 99 ∷ 114 ∷ 39 ∷ 58 ∷ 32 ∷ []

dict_text : (d : Dtype) (s : List ℕ) (o : Order) (x : List ℕ) → key_text ++ print (descr_layout d) (rest_text o s x) ≡ print (header_layout (made d s o)) x
unfolding escape_of
dict_text d s o x = refl

module _ (d : Dtype) (s : List ℕ) (o : Order) (old : List ℕ) (at : ℕ) (m₁ : List ℕ) (p₁ : ℕ) (m₂ : List ℕ) (p₂ : ℕ) (out : List ℕ) (p : ℕ) where
  pub dict_emits : Emits (λ x. key_text ++ x) old at m₁ p₁ → Emits (print (descr_layout d)) m₁ p₁ m₂ p₂ → Emits (rest_text o s) m₂ p₂ out p
      → Emits (print (header_layout (made d s o))) old at out p
  dict_emits a b c =
      let f₁ : List ℕ → List ℕ = λ x. key_text ++ x in
      let f₂ : List ℕ → List ℕ = λ x. f₁ (print (descr_layout d) x) in
      emits_same (λ x. f₂ (rest_text o s x)) (print (header_layout (made d s o))) old at out p (dict_text d s o)
      (emits_then f₂ (rest_text o s) old at m₂ p₂ out p (emits_then f₁ (print (descr_layout d)) old at m₁ p₁ m₂ p₂ a b) c)
