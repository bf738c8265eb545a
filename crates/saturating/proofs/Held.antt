-- The size of a plain type as an entry holds it, from the result of `num_bytes`: one that fits is itself, one that is over is held as 2^64-1, as `capped` says, and an
-- object, which has no size, as 0.
use Rattle.std.specs.Prelude.{None, Some, Option}
use Prim.Native.Nat.{ℕ}
use mathlib.Core.Path.{◌≡◌, refl, ap, sym, ◌∙◌}
use mathlib.Core.Bool.{Bool, true, false, cond}
use native.Mathlib.Omega.{arith}
use Rattle.counts.specs.Number.{number, capped}
use Rattle.counts.proofs.Fits.{number_is_back, number_over_back}
use Rattle.counts.proofs.Counted.{bytes_eq}
use Rattle.counts.specs.Counts.{bytes, as_bytes}
use Rattle.counts.specs.declared.Bytes.{Bytes}
use Rattle.type_letters.specs.Letters.{is_object}
use Rattle.type_str.specs.Bytes.{counted_bytes, num_bytes}
use Rattle.type_str.specs.declared.TypeBytes.TheVariants.{Sized, Unsized, TooLarge}
use Rattle.type_str.specs.declared.TypeStr.{TypeStr}
use Rattle.dtype.specs.PlainBytes.{plain_bytes}

held_is : (a n : ℕ) → Some n ≡ number a → n ≡ capped a
held_is a n e = omega (arith, number_is_back a n (sym e))

held_over : (a : ℕ) → None ≡ number a → 18446744073709551615 ≡ capped a
held_over a e = omega (arith, number_over_back a (sym e))

-- a plain type's bytes, from the result of `num_bytes`
module _ (t : TypeStr) where
  object_none : (b : Bool) → is_object t.letter ≡ b → plain_bytes t ≡ cond b 0 (plain_bytes t)
  object_none true e = rw e
  object_none false e = refl

  bytes_by : (b : Bool) → is_object t.letter ≡ b → (m : Option ℕ) → number (plain_bytes t) ≡ m → num_bytes t ≡ cond b Unsized (counted_bytes (bytes m))
  unfolding num_bytes
  bytes_by b e m q =
      ap (λ (x : Bool). cond x Unsized (counted_bytes (bytes (number (plain_bytes t))))) e ∙ ap (λ (x : Option ℕ). cond b Unsized (counted_bytes (bytes x))) q

  pub sized_held : (n : Bytes) → Sized n ≡ num_bytes t → n ≡ as_bytes (capped (plain_bytes t))
  sized_held n h = (bytes_eq (go (is_object t.letter) refl (number (plain_bytes t)) refl))
    where
      go : (b : Bool) → is_object t.letter ≡ b → (m : Option ℕ) → number (plain_bytes t) ≡ m → n.0 ≡ capped (plain_bytes t)
      go true e m q = let z = h ∙ bytes_by true e m q in let y : ◌≡◌ {A = ℕ} 0 1 = cc in absurd (omega arith)
      go false e (Some k) q =
          let z = h ∙ bytes_by false e (Some k) q in
          let y : n ≡ record { 0 = k } = cc in
          ap (λ (x : Bytes). x.0) y ∙ held_is (plain_bytes t) k (sym q)
      go false e None q = let z = h ∙ bytes_by false e None q in let y : ◌≡◌ {A = ℕ} 0 1 = cc in absurd (omega arith)

  pub unsized_held : Unsized ≡ num_bytes t → as_bytes 0 ≡ as_bytes (capped (plain_bytes t))
  unsized_held h = (bytes_eq (go (is_object t.letter) refl (number (plain_bytes t)) refl))
    where
      go : (b : Bool) → is_object t.letter ≡ b → (m : Option ℕ) → number (plain_bytes t) ≡ m → 0 ≡ capped (plain_bytes t)
      go true e m q = omega (arith, object_none true e)
      go false e (Some k) q = let z = h ∙ bytes_by false e (Some k) q in let y : ◌≡◌ {A = ℕ} 0 1 = cc in absurd (omega arith)
      go false e None q = let z = h ∙ bytes_by false e None q in let y : ◌≡◌ {A = ℕ} 0 1 = cc in absurd (omega arith)

  pub large_held : TooLarge ≡ num_bytes t → as_bytes 18446744073709551615 ≡ as_bytes (capped (plain_bytes t))
  large_held h = (bytes_eq (go (is_object t.letter) refl (number (plain_bytes t)) refl))
    where
      go : (b : Bool) → is_object t.letter ≡ b → (m : Option ℕ) → number (plain_bytes t) ≡ m → 18446744073709551615 ≡ capped (plain_bytes t)
      go true e m q = let z = h ∙ bytes_by true e m q in let y : ◌≡◌ {A = ℕ} 0 1 = cc in absurd (omega arith)
      go false e (Some k) q = let z = h ∙ bytes_by false e (Some k) q in let y : ◌≡◌ {A = ℕ} 0 1 = cc in absurd (omega arith)
      go false e None q = held_over (plain_bytes t) (sym q)
