-- What is put around a text: the spaces, which a loop writes, and the prefix.
use Prim.Native.Nat.{ℕ, suc, ◌+◌, ◌-◌, ◌<◌, ◌≤◌}
use native.Mathlib.Omega.{arith}
use mathlib.Core.Path.{◌≡◌, refl, ap, ◌∙◌}
use mathlib.Core.List.{List, ◌∷◌, ◌++◌}
use lib.ListN.{length}
use lib.Seq.{sets}
use Rattle.counts.specs.Number.{capped}
use Rattle.emit.specs.Emits.{Emits}
use Rattle.emit.proofs.Pieces.{emits_then, emits_same, emits_length}
use Rattle.literal_grammar.specs.Print.{spaces}
use Rattle.type_letters.specs.declared.Endianness.TheVariants.{Little}
use Rattle.number_bytes.specs.Numbers.{least_bytes, out_order}
use Rattle.record.specs.Prefix.{Version, one_zero, two_zero, three_zero, major, length_width, magic}
use Rattle.record.specs.File.{file_by}
use Rattle.header_prefix.specs.declared.Version.{Version as Chosen}
use Rattle.header_prefix.specs.Answer.{version_is}

-- ---- a piece f, of which g is still to be written
pub record Still (f g : List ℕ → List ℕ) (old : List ℕ) (at : ℕ) (out : List ℕ) (p : ℕ) : Type 0 where
  pub same : length out ≡ length old
  pub stored : (x : List ℕ) → sets out p (g x) ≡ sets old at (f x)
  pub after : (x : List ℕ) → capped (p + length (g x)) ≡ capped (at + length (f x))

pub still_start : (f : List ℕ → List ℕ) (old : List ℕ) (at : ℕ) → Still f f old at old at
still_start f old at = record { same = refl; stored = λ x. refl; after = λ x. refl }

pub still_more : (f g h k : List ℕ → List ℕ) (old : List ℕ) (at : ℕ) (out : List ℕ) (p : ℕ) (out' : List ℕ) (p' : ℕ) → ((x : List ℕ) → h (k x) ≡ g x)
    → Still f g old at out p → Emits h out p out' p' → Still f k old at out' p'
still_more f g h k old at out p out' p' e s w =
    record {
      same = emits_length h out p out' p' w ∙ s.same;
      stored = λ x. w.stored (k x) ∙ ap (λ (y : List ℕ). sets out p y) (e x) ∙ s.stored x;
      after = λ x. w.after (k x) ∙ ap (λ (y : List ℕ). capped (p + length y)) (e x) ∙ s.after x;
    }

pub still_end : (f g : List ℕ → List ℕ) (old : List ℕ) (at : ℕ) (out : List ℕ) (p : ℕ) → ((x : List ℕ) → x ≡ g x) → Still f g old at out p → Emits f old at out p
still_end f g old at out p e s =
    record {
      stored = λ x. ap (λ (y : List ℕ). sets out p y) (e x) ∙ s.stored x;
      after = λ x. ap (λ (y : List ℕ). capped (p + length y)) (e x) ∙ s.after x;
    }

pub spaces_next : (n i : ℕ) (x : List ℕ) → i < n → 32 ∷ spaces (n - (i + 1)) x ≡ spaces (n - i) x
spaces_next n i x h = let z : n - i ≡ suc (n - (i + 1)) = omega arith in rw z

pub spaces_none : (n i : ℕ) (x : List ℕ) → n ≤ i → x ≡ spaces (n - i) x
spaces_none n i x h = let z : n - i ≡ 0 = omega arith in rw z

-- ---- the prefix
width_fits : (v : Version) → length_width v < 256
width_fits one_zero = omega arith
width_fits two_zero = omega arith
width_fits three_zero = omega arith

pub byte_width : (v : Chosen) (w : ℕ) → w ≡ length_width (version_is v) → w < 256
byte_width v w e = omega (arith, width_fits (version_is v), e)

pub prefix_emits : (v : Chosen) (n : ℕ) (old : List ℕ) (at : ℕ) (m₁ : List ℕ) (p₁ : ℕ) (m₂ : List ℕ) (p₂ : ℕ) (m₃ : List ℕ) (p₃ : ℕ) (out : List ℕ) (p a w : ℕ)
    → a ≡ major (version_is v) → w ≡ length_width (version_is v) → Emits (λ x. magic ++ x) old at m₁ p₁ → Emits (λ x. a ∷ x) m₁ p₁ m₂ p₂ → Emits (λ x. 0 ∷ x) m₂ p₂ m₃ p₃
    → Emits (λ x. out_order Little w n ++ x) m₃ p₃ out p → Emits (file_by (version_is v) n) old at out p
unfolding out_order
prefix_emits v n old at m₁ p₁ m₂ p₂ m₃ p₃ out p a w y z b c e f =
    emits_same (λ x. magic ++ a ∷ 0 ∷ least_bytes w n ++ x) (file_by (version_is v) n) old at out p (λ x. rw (y, z))
    (emits_then (λ x. magic ++ a ∷ 0 ∷ x) (λ x. least_bytes w n ++ x) old at m₃ p₃ out p
    (emits_then (λ x. magic ++ a ∷ x) (λ x. 0 ∷ x) old at m₂ p₂ m₃ p₃ (emits_then (λ x. magic ++ x) (λ x. a ∷ x) old at m₁ p₁ m₂ p₂ b c) e) f)
