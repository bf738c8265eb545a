-- The shapes whose strides can be listed: at most 32 dimensions, and no stride over 2^64-1.
use Rattle.std.specs.Prelude.{ℕ, ◌≤◌, ◌≡◌, false, List, length}
use Rattle.dtype.specs.declared.Order.{Order}
use Rattle.dtype.specs.Limits.{over_shape}

pub record Strided (o : Order) (s : List ℕ) : Type 0 where
  pub few : length s ≤ 32
  pub fits : over_shape o s ≡ false
