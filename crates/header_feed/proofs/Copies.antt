-- What a loop that copies keeps: the first i bytes are copied. (npy_codes copies a head so.)
use Prim.Native.Nat.{ℕ, ◌+◌, ◌<◌, ◌≤◌}
use native.Mathlib.Omega.{arith}
use native.Mathlib.Numerals.{add-one}
use mathlib.Core.Path.{◌≡◌, ap, ◌∙◌}
use mathlib.Core.List.{List}
use lib.ListN.{length, get_or, set}
use lib.Seq.{paste, paste-zero, paste-suc, length-paste}

pub record Copying (d : List ℕ) (at : ℕ) (s : List ℕ) (n i : ℕ) (out : List ℕ) : Type 0 where
  pub room : at + n ≤ length d
  pub enough : n ≤ length s
  pub within : i ≤ n
  pub is : out ≡ paste d at s i

pub copying_start : (d : List ℕ) (at : ℕ) (s : List ℕ) (n : ℕ) → at + n ≤ length d → n ≤ length s → Copying d at s n 0 d
copying_start d at s n h k = record { room = h; enough = k; within = omega arith; is = paste-zero d at s }

module _ (d : List ℕ) (at : ℕ) (s : List ℕ) (n i : ℕ) (out : List ℕ) (c : Copying d at s n i out) where
  pub copying_length : length out ≡ length d
  copying_length = ap length c.is ∙ length-paste d at s i (omega (arith, c.room, c.within)) (omega (arith, c.enough, c.within))

  pub copying_inside : i < n → at + i < length out
  copying_inside l = omega (arith, copying_length, c.room)

  pub copying_next : i < n → Copying d at s n (i + 1) (set out (at + i) (get_or s i 0))
  copying_next l =
      record {
        room = c.room;
        enough = c.enough;
        within = omega arith;
        is = rw (c.is, add-one i) (paste-suc d at s i 0 (omega (arith, c.room)) (omega (arith, c.enough)));
      }

  pub copying_end : n ≤ i → out ≡ paste d at s n
  copying_end l = let z : i ≡ n = omega (arith, c.within) in rw z at c.is
