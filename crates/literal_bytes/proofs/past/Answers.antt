-- The invariant: the run from `from` on ends where the run from `at` on ends. A start past the end of the text is the end of the run.
use native.Mathlib.Omega.{arith}
use Rattle.literal_bytes.proofs.Positions.{run_stops, run_goes_on, run_over}
use Rattle.literal_bytes.proofs.past.Goals as goal

pub returns-then-not-passes : goal.returns-then-not-passes
returns-then-not-passes g c = run_stops (g.T.Test.passes c.args.test) c.args.text.now c.args.from c.loop-at.at c.loop-at.invariant.1 c.loop-at-test.true _ c.passes.ensures c.if-not-passes.true-raw

pub loop-at-preserved : goal.loop-at-preserved
loop-at-preserved g c =
    (omega arith, run_goes_on (g.T.Test.passes c.args.test) c.args.text.now c.args.from c.loop-at.at c.loop-at.invariant.1 c.loop-at-test.true _ c.passes.ensures c.if-not-passes.false-raw)

pub returns : goal.returns
returns g c = omega (arith, run_over (g.T.Test.passes c.args.test) c.args.text.now c.args.from c.loop-at.at c.loop-at.invariant.1 c.loop-at-test.false, c.loop-at.invariant.0, c.max.ensures)
