-- How many digits a printed number has: at most k + 1 below 10^(k+1), and so at most 20 below 2^64.
use Prim.Native.Nat.{ℕ, zero, suc, ◌+◌, ◌/◌, ◌%◌, ◌^◌, ◌<◌, ◌≤◌}
use native.Mathlib.Omega.{arith}
use mathlib.Core.Logic.{⊎_elim}
use mathlib.Core.List.{List, ◌∷◌}
use lib.ListN.{length}
use Rattle.counts.proofs.Sides.{lt_or_ge}
use Rattle.decimal.specs.Decimal.{printed}
use Rattle.decimal.proofs.Prints.{printed_low, printed_high}

low_length : (n : ℕ) (r : List ℕ) → n < 10 → length (printed n r) ≤ 1 + length r
low_length n r h = rw (printed_low n r h) (omega arith)

pub printed_length : (k n : ℕ) (r : List ℕ) → n < 10 ^ suc k → length (printed n r) ≤ suc k + length r
printed_length zero n r h = low_length n r (omega arith)
printed_length (suc k) n r h =
    ⊎_elim (λ l. omega (arith, low_length n r l))
    (λ g. rw (printed_high n r g) (omega (arith, printed_length k (n / 10) ((48 + n % 10) ∷ r) (omega arith))))
    (lt_or_ge n 10)

pub printed_u64 : (n : ℕ) (r : List ℕ) → n < 2 ^ 64 → length (printed n r) ≤ 20 + length r
printed_u64 n r h = printed_length 19 n r (omega arith)
