-- `utf8::largest` meets its contract. The loop's invariant: no byte passed is above the largest so far. Past the end nothing is above it either.
use mathlib.Core.Logic.{⊎_elim}
use native.Mathlib.Omega.{arith}
use borrow.Author.Count.{below_more}
use lib.ListN.{length, get_or-eq_default}
use Rattle.counts.proofs.Sides.{lt_or_ge}
use Rattle.utf8.proofs.largest.Goals as goal

pub loop-b-preserved : goal.loop-b-preserved
loop-b-preserved c = below_more _ _ (λ k h. omega (arith, c.loop-b.invariant k h, c.max-most.ensures)) (omega (arith, c.max-most.ensures))

pub returns : goal.returns
returns c k =
    let text = c.args.text.now in
    ⊎_elim
    (λ h. c.loop-b.invariant k (omega (arith, h, c.loop-b-test.false)))
    (λ h. omega (arith, get_or-eq_default text 0 h))
    (lt_or_ge k (length text))
