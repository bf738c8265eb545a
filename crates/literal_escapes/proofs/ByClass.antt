-- What the class c of a byte says of the comparisons that decide a piece of a string: a backslash is no break; a blank is no backslash; a byte of any other class is neither.
use Prim.Native.Nat.{ℕ, ◌<◌}
use mathlib.Core.Path.{◌≡◌, refl, sym, ap, ◌∙◌}
use mathlib.Core.Bool.{Bool, true, false, ◌&&◌}
use lib.Dec.{eqb}
use borrow.Author.Tests.{ne_eqb}
use Rattle.counts.proofs.Alike.{true_false}
use Rattle.literal_grammar.specs.Bytes.{is_break}
use Rattle.literal_classes.specs.Classes.{class_of}
use Rattle.literal_classes.proofs.Bytes.{backslash_class, break_class}

no_break : (t u : Bool) → (t && u) ≡ t → u ≡ false → t ≡ false
no_break true u h e = true_false (sym h ∙ e)
no_break false u h e = refl

module _ (b c : ℕ) (fits : b < 256) (said : c ≡ class_of b) where
  break_not : eqb c 0 ≡ false → is_break b ≡ false
  break_not e = no_break (is_break b) (eqb (class_of b) 0) (break_class b fits) (sym (ap (λ (x : ℕ). eqb x 0) said) ∙ e)

  slash_is : eqb b 92 ≡ eqb c 8
  slash_is = sym (backslash_class b fits) ∙ sym (ap (λ (x : ℕ). eqb x 8) said)

  pub of_backslash : c ≡ 8 → (is_break b ≡ false) × (eqb b 92 ≡ true)
  of_backslash e = (break_not (rw e), slash_is ∙ rw e)

  pub of_blank : c ≡ 0 → eqb b 92 ≡ false
  of_blank e = slash_is ∙ rw e

  pub of_another : (c ≡ 8 → ⊥) → (c ≡ 0 → ⊥) → (is_break b ≡ false) × (eqb b 92 ≡ false)
  of_another n8 n0 = (break_not (ne_eqb c 0 n0), slash_is ∙ ne_eqb c 8 n8)
