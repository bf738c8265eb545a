-- The invariant: the run from `from` on ends where the run from `at` on ends; it continues after a block.
use mathlib.Core.Path.{sym, ◌∙◌}
use Rattle.literal_bytes.proofs.Blocks.{block_passed}
use Rattle.literal_bytes.proofs.past_far.Goals as goal

pub loop-at-preserved : goal.loop-at-preserved
loop-at-preserved g c =
    let l = c.loop-at in
    let b = block_passed (g.T.Test.passes c.args.test) g.T.Test.BLOCK c.args.text.now l.at (sym c.block_at.ensures ∙ c.loop-at-test.true) in
    rw c.BLOCK-at.ensures (l.invariant ∙ b.1)
