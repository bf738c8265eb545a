-- What a number that was read is as a dimension, by its sign.
use Rattle.std.specs.Option.{ok_or}
use Rattle.refusal.specs.Answers.{answer}
use Rattle.std.specs.Prelude.{None, Some, Option}
use Prim.Native.Nat.{ℕ, zero, suc, ◌^◌}
use native.Mathlib.Omega.{arith}
use mathlib.Core.Path.{◌≡◌, refl, sym, ap, ◌∙◌}
use mathlib.Core.Bool.{true, false}
use borrow.Author.Tests.{lt-leb, le-leb}
use Rattle.counts.specs.Outcome.{gives, refused}
use Rattle.counts.specs.Number.{number}
use Rattle.counts.proofs.Fits.{number_is_back, number_over_back}
use Rattle.record.specs.Dimensions.{signed}
use Rattle.refusal.specs.declared.Refusal.{Refusal}

pub positive_signed : (x : Option ℕ) (m : ℕ) → x ≡ number m → answer (ok_or x Refusal.LargeDimension) ≡ signed false m
positive_signed (Some n) m e =
    let b = number_is_back m n (sym e) in
    rw (lt-leb (2 ^ 64) m b.1) (ap gives (sym b.0))
positive_signed None m e = rw (le-leb (2 ^ 64) m (number_over_back m (sym e)))

more_than_zero : (m : ℕ) → (m ≡ 0 → ⊥) → refused 11 ≡ signed true m
more_than_zero zero h = absurd (h refl)
more_than_zero (suc m) h = refl

pub negative_zero : (x : Option ℕ) (n m : ℕ) → x ≡ Some n → n ≡ 0 → x ≡ number m → gives 0 ≡ signed true m
negative_zero x n m h z e =
    let b = number_is_back m n (sym e ∙ h) in
    ap (signed true) (sym (b.0 ∙ z))

pub negative_more : (x : Option ℕ) (n m : ℕ) → x ≡ Some n → (n ≡ 0 → ⊥) → x ≡ number m → refused 11 ≡ signed true m
negative_more x n m h nz e = let b = number_is_back m n (sym e ∙ h) in more_than_zero m (λ z. nz (sym b.0 ∙ z))

pub negative_over : (x : Option ℕ) (m : ℕ) → x ≡ None → x ≡ number m → refused 11 ≡ signed true m
negative_over x m h e = let b = number_over_back m (sym e ∙ h) in more_than_zero m (λ z. omega arith)
