-- Where gaps end: after their first byte and within the text. Each law follows the definition that it speaks of.
use Prim.Native.Nat.{ℕ, ◌+◌, ◌<◌, ◌≤◌}
use native.Mathlib.Omega.{arith}
use mathlib.Core.Path.{◌≡◌, refl}
use mathlib.Core.List.{List}
use mathlib.Core.Bool.{true}
use lib.ListN.{length}
use lib.Dec.{eqb}
use borrow.Author.Tests.{eqb-true}
use Rattle.literal_grammar.specs.Bytes.{is_blank}
use Rattle.literal_bytes.proofs.Positions.{by_test, byte_in, past_from}
use Rattle.literal_bytes.proofs.Ends.{Ahead, Stops}
use Rattle.literal_bytes.specs.Text.{byte_at, skip}
use Rattle.literal_bytes.specs.declared.Parsed.{Parsed}
use Rattle.literal_bytes.specs.declared.Parsed.TheVariants.{Value, Fault, Deep}
use Rattle.literal_bytes.specs.Gaps.{gap_at, then_at, need_at, begins_by}
use Rattle.literal_bytes.specs.declared.Gap.{Gap}
use Rattle.literal_bytes.specs.declared.Gap.TheVariants.{Shut, Item, Stray}

-- a bracket is shut after lo, an item begins at lo or after it
abbrev pub GapAhead : ℕ → ℕ → Gap → Type 0
GapAhead lo hi (Shut e) = (lo < e) × (e ≤ hi)
GapAhead lo hi (Item p) = lo ≤ p
GapAhead lo hi (Stray p) = Unit {0}

pub gap_from : (lo mid hi : ℕ) (g : Gap) → lo ≤ mid → GapAhead mid hi g → GapAhead lo hi g
gap_from lo mid hi (Shut e) le h = omega arith
gap_from lo mid hi (Item p) le h = omega arith
gap_from lo mid hi (Stray p) le h = tt

module _ (s : List ℕ) (at close : ℕ) (small : close < 256) where
  shut_ahead : eqb (byte_at s (skip s at)) close ≡ true → (at < skip s at + 1) × (skip s at + 1 ≤ length s)
  shut_ahead h = omega (arith, past_from is_blank s at, byte_in s (skip s at) close (eqb-true _ _ h) small)

  pub gap_ahead : GapAhead at (length s) (gap_at s at close)
  unfolding gap_at
  gap_ahead = by_test (λ g. GapAhead at (length s) g) (eqb (byte_at s (skip s at)) close) shut_ahead (λ h. past_from is_blank s at)

  pub need_ahead : Ahead at (length s) (need_at s at close)
  unfolding need_at
  need_ahead = by_test (λ r. Ahead at (length s) r) (eqb (byte_at s (skip s at)) close) shut_ahead (λ h. tt)

pub then_ahead : (s : List ℕ) (at close : ℕ) → close < 256 → GapAhead at (length s) (then_at s at close)
unfolding then_at
then_ahead s at close small =
    by_test P (eqb (byte_at s (skip s at)) close) (shut_ahead s at close small)
    (λ h. by_test P (eqb (byte_at s (skip s at)) 44) (λ h. gap_from at (skip s at + 1) (length s) (gap_at s (skip s at + 1) close) (omega (arith, past_from is_blank s at)) (gap_ahead s (skip s at + 1) close small)) (λ h. tt))
  where
    P : Gap → Type 0
    P g = GapAhead at (length s) g

-- what is no value has no colon after it
pub begins_stop : (s : List ℕ) (r : Parsed) → Stops r → r ≡ begins_by s r
begins_stop s (Value e) st = absurd st
begins_stop s (Fault p) st = refl
begins_stop s (Deep p) st = refl
