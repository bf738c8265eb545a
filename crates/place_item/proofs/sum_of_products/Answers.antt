-- `place_item::sum_of_products` meets its contract. The loop keeps that the whole sum is the sum so far, which fits, and that of the numbers left (`Summed`).
use Rattle.place_item.proofs.Sums.{summed_start, summed_end, summed_short, times_over, plus_over, summed_next}
use mathlib.Core.Path.{sym, ◌∙◌}
use Rattle.place_item.proofs.sum_of_products.Goals as goal

pub loop-k-init : goal.loop-k-init
loop-k-init c = summed_start _ _

pub returns-then-strides-k : goal.returns-then-strides-k
returns-then-strides-k c = summed_short _ _ _ c.loop-k.k c.loop-k.invariant c.if-strides-k.true

pub returns-in_default : goal.returns-in_default
returns-in_default c = times_over _ _ _ c.loop-k.k c.loop-k.invariant c.loop-k-test.true c.if-strides-k.false (sym c.in_default.is ∙ c.times.ensures)

pub returns-in_default-plus : goal.returns-in_default-plus
returns-in_default-plus c = plus_over _ _ _ c.loop-k.k c.loop-k.invariant c.loop-k-test.true c.if-strides-k.false _ (sym c.in-Some.is ∙ c.times.ensures) (sym c.in_default-plus.is ∙ c.plus.ensures)

pub loop-k-preserved : goal.loop-k-preserved
loop-k-preserved c = summed_next _ _ _ c.loop-k.k c.loop-k.invariant c.loop-k-test.true c.if-strides-k.false _ (sym c.in-Some.is ∙ c.times.ensures) _ (sym c.in-Some-plus.is ∙ c.plus.ensures)

pub returns : goal.returns
returns c = summed_end _ _ _ c.loop-k.k c.loop-k.invariant c.loop-k-test.false
