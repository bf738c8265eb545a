-- The order in which the dimensions of a shape are visited so that the stride of each is the product of those before it: the last one first in C
-- order, the first one first in Fortran order.
use Rattle.std.specs.Prelude.{ℕ, ◌-◌}
use Rattle.dtype.specs.declared.Order.{Order}
use Rattle.dtype.specs.declared.Order.TheVariants.{C, Fortran}

-- the dimension, of n, that is visited after k others
abbrev pub visited : Order → (n k : ℕ) → ℕ
visited C n k = n - 1 - k
visited Fortran n k = k
