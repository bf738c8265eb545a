-- `place_item::sum_of_products` meets its contract. The loop keeps that the whole sum is the sum so far, which fits, and that of the numbers left (`Summed`).
use Rattle.place_item.proofs.Sums.{Summed}
use Rattle.place_item.proofs.sum_of_products.Given as goal

abbrev pub invariant-loop-k : goal.invariant-loop-k
invariant-loop-k l = Summed l.index l.strides l.sum.0 l.k
