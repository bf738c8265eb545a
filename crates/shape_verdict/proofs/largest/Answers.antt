-- Items of no bytes make levels of no bytes, however many they are.
use borrow.Author.Tests.{eq-eqb, ne_eqb}
use Rattle.shape_verdict.specs.Outline.{largest_in}
use Rattle.shape_verdict.proofs.largest.Goals as goal

pub returns-then-size-eq0 : goal.returns-then-size-eq0
unfolding largest_in
returns-then-size-eq0 c = rw (eq-eqb _ _ c.if-size-eq0.true)

pub returns : goal.returns
unfolding largest_in
returns c = rw (ne_eqb _ _ c.if-size-eq0.false) c.bytes_of_items.ensures
