-- The numbers of a slice of u64 are below 2^64: what the checker knows of each element, of all of them.
use Prim.Native.Nat.{ℕ, suc, ◌<◌, ◌^◌}
use mathlib.Core.List.{List, [], ◌∷◌}
use lib.ListN.{get_or}
use Rattle.record.specs.Sound.{Small}

pub small_by : (ns : List ℕ) → ((i : ℕ) → get_or ns i 0 < 2 ^ 64) → Small ns
small_by [] h = tt
small_by (n ∷ ns) h = (h 0, small_by ns (λ i. h (suc i)))
