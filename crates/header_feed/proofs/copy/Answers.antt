-- `header_feed::copy` meets its contract. The loop keeps that the first i bytes are copied.
use native.Mathlib.Omega.{arith}
use Rattle.header_feed.proofs.Copies.{copying_start, copying_length, copying_inside, copying_next, copying_end}
use Rattle.header_feed.proofs.copy.Goals as goal

pub loop-i-init : goal.loop-i-init
loop-i-init c = copying_start _ _ _ _ c.requires.0 c.requires.1

pub bounds-out-at : goal.bounds-out-at
bounds-out-at c = copying_inside _ _ _ _ _ _ c.loop-i.invariant (omega arith)

pub loop-i-preserved : goal.loop-i-preserved
loop-i-preserved c = copying_next _ _ _ _ _ _ c.loop-i.invariant (omega arith)

pub shape_of-out : goal.shape_of-out
shape_of-out c = copying_length _ _ _ _ _ _ c.loop-i.invariant

pub returns : goal.returns
returns c = copying_end _ _ _ _ _ _ c.loop-i.invariant (omega arith)
