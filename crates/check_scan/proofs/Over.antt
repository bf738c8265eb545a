-- 13 and 21 as the code tests them: a walk over entries, and counts of bytes that may be over 2^64-1.
use Rattle.std.specs.List.{list_any, range_with_len}
use native.Mathlib.Numerals.{add-one}
use Prim.Native.Nat.{ℕ, zero, suc, ◌*◌}
use mathlib.Core.Path.{◌≡◌, refl, ap, ◌∙◌}
use mathlib.Core.Bool.{Bool, ◌||◌}
use Rattle.counts.specs.Number.{number}
use Rattle.dtype.specs.PlainBytes.{bytes_for}
use Rattle.dtype.specs.Limits.{over}
use Rattle.dtype.specs.Seen.{some_from}
use Rattle.counts.specs.Counts.{bytes, bytes_over}
use Rattle.counts.proofs.Counted.{bytes_test}

-- `any` over the numbers of entries is whether one of these entries passes the test
pub any_some : (test : ℕ → Bool) (n e : ℕ) → list_any test (range_with_len e n) ≡ some_from test n e
any_some test zero e = refl
any_some test (suc n) e = rw add-one (ap (λ b. test e || b) (any_some test n (suc e)))

-- `U`: counts of bytes that may be over
pub unicode_over : (letter size : ℕ) → letter ≡ 85 → bytes_over (bytes (number (4 * size))) ≡ over (bytes_for letter size)
unicode_over letter size h = bytes_test (4 * size) ∙ rw h
