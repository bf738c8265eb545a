-- `shape::count` meets its contract. The loop keeps that `acc` is the product of the dimensions passed, and that it and those before it fit (`Counting`); a product that does not fit
-- is the count or a stride.
use Rattle.counts.proofs.HandedOn.{handed_on}
use mathlib.Core.Path.{sym, ◌∙◌}
use Rattle.shape.proofs.Turns.{counting_start, counting_next, counting_over, counting_end}
use Rattle.shape.proofs.count.Goals as goal

pub loop-k-init : goal.loop-k-init
loop-k-init c = counting_start _ _

pub returns-in_err-product : goal.returns-in_err-product
returns-in_err-product c =
    let l = c.loop-k in
    rw (handed_on _ c.in_err-product.field-0.0 c.from_residual.ensures)
    (counting_over _ _ l.product.0 l.k _ l.invariant c.loop-k-test.true c.visit-at.ensures.0 _ _ c.times.ensures (sym c.in_err-product.was ∙ c.ok_or.ensures.value))

pub loop-k-preserved : goal.loop-k-preserved
loop-k-preserved c =
    let l = c.loop-k in
    counting_next _ _ l.product.0 l.k _ l.invariant c.loop-k-test.true c.visit-at.ensures.0 _ (sym c.in_ok-product.ensures.ok_part ∙ c.times.ensures)

pub returns : goal.returns
returns c = counting_end _ _ _ _ c.loop-k.invariant c.loop-k-test.false
