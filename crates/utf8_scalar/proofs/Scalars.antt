-- `is_scalar` by its ranges, and what a scalar value is at most.
use Prim.Native.Nat.{ℕ, ◌≤◌, ◌<◌}
use mathlib.Core.Path.{◌≡◌, sym, ◌∙◌}
use mathlib.Core.Bool.{true, false, true≢false}
use mathlib.Core.Logic.{⊎_elim}
use native.Mathlib.Omega.{arith}
use borrow.Author.Tests.{le-leb, lt-leb}
use lib.Dec.{leb}
use Rattle.std.specs.Prelude.{Option, None, Some, is_some}
use Rattle.std.specs.Option.{MatchOption}
use Rattle.std.specs.Char.{InScalarRange, OutOfScalarRange}
use Rattle.counts.proofs.Sides.{lt_or_ge}
use Rattle.utf8_scalar.specs.Scalar.{is_scalar}

pub scalar_low : (c : ℕ) → c ≤ 0xD7FF → is_scalar c ≡ true
unfolding is_scalar
scalar_low c h = simp (is_scalar, le-leb c 0xD7FF h)

pub scalar_not : (c : ℕ) → 0xD7FF < c → c < 0xE000 → is_scalar c ≡ false
unfolding is_scalar
scalar_not c h k = simp (is_scalar, lt-leb c 0xD7FF h, lt-leb 0xE000 c k)

pub scalar_high : (c : ℕ) → 0xE000 ≤ c → is_scalar c ≡ leb c 0x10FFFF
unfolding is_scalar
scalar_high c h =
    let k : 0xD7FF < c = omega arith in
    simp (is_scalar, lt-leb c 0xD7FF k, le-leb 0xE000 c h)

pub scalar_over : (c : ℕ) → 0x110000 ≤ c → is_scalar c ≡ false
scalar_over c h =
    let k : 0xE000 ≤ c = omega arith in
    let l : 0x10FFFF < c = omega arith in
    simp (scalar_high c k, lt-leb c 0x10FFFF l)

pub scalar_below : (c : ℕ) → is_scalar c ≡ true → c < 0x110000
scalar_below c s = ⊎_elim (λ h. h) (λ h. absurd (true≢false (sym s ∙ scalar_over c h))) (lt_or_ge c 0x110000)

-- what the library's `char::from_u32` says of a number
scalar_in : (c : ℕ) → InScalarRange c → is_scalar c ≡ true
scalar_in c h = ⊎_elim (λ l. scalar_low c (omega arith)) (λ l. scalar_high c l.0 ∙ le-leb c 0x10FFFF l.1) h

scalar_out : (c : ℕ) → OutOfScalarRange c → is_scalar c ≡ false
scalar_out c h = ⊎_elim (λ l. scalar_not c (omega (arith, l.0)) (omega (arith, l.1))) (λ l. scalar_over c l) h

pub char_or_none : (o : Option ℕ) (c : ℕ) → MatchOption o (OutOfScalarRange c) (λ x. InScalarRange c) → is_some o ≡ is_scalar c
char_or_none None c h = sym (scalar_out c h)
char_or_none (Some x) c h = sym (scalar_in c h)
