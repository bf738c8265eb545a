-- The invariant: the block passes where the bytes passed and those that are left do.
use mathlib.Core.Path.{ap}
use mathlib.Core.Bool.{Bool, ◌&&◌}
use Rattle.literal_bytes.proofs.Blocks.{block_more, block_end}
use Rattle.literal_bytes.proofs.all_pass.Goals as goal

pub loop-b-preserved : goal.loop-b-preserved
loop-b-preserved g c =
    let l = c.loop-b in
    block_more (g.T.Test.passes c.args.test) c.args.block.now l.b-index l.all _ _ c.loop-b-test.true l.invariant (ap (λ (x : Bool). l.all && x) c.passes_in_block-all.ensures)

pub returns : goal.returns
returns g c = block_end (g.T.Test.passes c.args.test) c.args.block.now c.loop-b.b-index c.loop-b.all _ c.loop-b-test.false c.loop-b.invariant
