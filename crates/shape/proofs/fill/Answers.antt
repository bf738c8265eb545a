-- `shape::fill` meets its contract. The loop keeps that the strides of the dimensions passed are at their places, that the product so far is the stride of the next, and that the room after
-- the rank is as it was (`Filling`), so that no product is over.
use mathlib.Core.Path.{sym, ◌∙◌}
use Rattle.shape.proofs.Turns.{filling_start, filling_some, filling_next, filling_end}
use Rattle.shape.proofs.fill.Goals as goal

pub loop-k-init : goal.loop-k-init
loop-k-init c = filling_start _ _ _ c.requires.0 c.requires.1

pub unwrap-stride-requires : goal.unwrap-stride-requires
unwrap-stride-requires c =
    let l = c.loop-k in
    filling_some _ _ _ l.stride.0 l.k _ l.out l.invariant c.loop-k-test.true c.visit-at.ensures.0 _ c.times.ensures

pub loop-k-preserved : goal.loop-k-preserved
loop-k-preserved c =
    let l = c.loop-k in
    filling_next _ _ _ l.stride.0 l.k _ l.out l.invariant c.loop-k-test.true c.visit-at.ensures.0 _ (sym c.unwrap-stride.ensures ∙ c.times.ensures)

pub returns : goal.returns
returns c = filling_end _ _ _ _ _ _ c.loop-k.invariant c.loop-k-test.false
