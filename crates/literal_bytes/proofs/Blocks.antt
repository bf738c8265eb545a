-- Blocks of bytes that all pass a test: a run of such bytes continues after a block.
use Prim.Native.Nat.{ℕ, zero, suc, ◌+◌, ◌-◌, ◌<◌, ◌≤◌}
use native.Mathlib.Omega.{arith}
use native.Mathlib.Numerals.{add-one}
use mathlib.Core.Path.{◌≡◌, sym, ap, ◌∙◌}
use mathlib.Core.List.{List, [], ◌∷◌}
use mathlib.Core.Bool.{Bool, true, ◌&&◌, and_assoc, and-true}
use lib.ListN.{length, get_or, take, drop, length-drop, drop_of_length-le}
use lib.Seq.{drop-cons, drop-drop}
use lib.Dec.{leb}
use borrow.Author.Tests.{leb-true}
use Rattle.counts.proofs.Alike.{and_left, and_right}
use Rattle.literal_bytes.specs.Text.{part, run, past, all_pass, block_at}

module _ (f : ℕ → Bool) where
  all_run : (n : ℕ) (l : List ℕ) → n ≤ length l → all_pass f (take n l) ≡ true → run f l ≡ n + run f (drop n l)
  unfolding run all_pass
  all_run zero l le h = omega arith
  all_run (suc n) [] le h = absurd (omega arith)
  all_run (suc n) (b ∷ l) le h =
      rw (run, and_left (f b) (all_pass f (take n l)) h) (omega (arith, all_run n l (omega arith) (and_right (f b) (all_pass f (take n l)) h)))

  -- a run continues after a block
  pub block_passed : (k : ℕ) (s : List ℕ) (at : ℕ) → block_at f k s at ≡ true → (at + k ≤ length s) × (past f s at ≡ past f s (at + k))
  unfolding past
  block_passed k s at h =
      let le = leb-true (at + k) (length s) (and_left (leb (at + k) (length s)) (all_pass f (part s at (at + k))) h) in
      let n : at + k - at ≡ k = omega arith in
      let whole : all_pass f (take k (drop at s)) ≡ true = ap (λ (m : ℕ). all_pass f (take m (drop at s))) (sym n) ∙ and_right (leb (at + k) (length s)) (all_pass f (part s at (at + k))) h in
      let r = all_run k (drop at s) (omega (arith, length-drop at s)) whole in
      (le, omega (arith, r, ap (λ (l : List ℕ). run f l) (drop-drop k at s)))

  -- the loop over a block: the bytes before i passed where p says so
  module _ (l : List ℕ) (i : ℕ) (p : Bool) where
    pub block_more : (p' t : Bool) → i < length l → t ≡ p && all_pass f (drop i l) → p' ≡ p && f (get_or l i 0) → t ≡ p' && all_pass f (drop (i + 1) l)
    unfolding all_pass
    block_more p' t lt h e = h ∙ rw (add-one i, drop-cons l i 0 lt, e, and_assoc)

    pub block_end : (t : Bool) → length l ≤ i → t ≡ p && all_pass f (drop i l) → p ≡ t
    unfolding all_pass
    block_end t le h = sym (h ∙ rw (drop_of_length-le l le, and-true))
