-- `decimal::by_blocks` meets its contract: reading on is the same before a block and after it (`read_on_block`).
use Prim.Native.Nat.{ℕ, ◌+◌, ◌≤◌}
use native.Mathlib.Omega.{arith}
use mathlib.Core.Path.{refl, sym, ap, ◌∙◌}
use lib.ListN.{length}
use Rattle.decimal.specs.Decimal.{decimal}
use Rattle.decimal.specs.Blocks.{all_digits, with_block}
use Rattle.decimal.proofs.Blocks.{block_inside, block_digits, read_on_block}
use Rattle.decimal.proofs.by_blocks.Goals as goal
use Rattle.decimal.proofs.by_blocks.Goals.{In-Some}

pub loop-block-init : goal.loop-block-init
loop-block-init c = refl

inside : (c : goal.In-Some) → c.loop-block.count + 8 ≤ length c.args.text.now
inside c = block_inside _ _ c.loop-block.number c.in-Some.ensures.0

pub eight-requires : goal.eight-requires
eight-requires c = let l = c.loop-block in ap all_digits c.in-Some.ensures.1 ∙ block_digits c.args.text.now l.count l.number c.in-Some.ensures.0

pub overflow_add-count : goal.overflow_add-count
overflow_add-count c = omega (arith, inside (goal.at.overflow_add-count c).In-Some)

pub loop-block-smaller : goal.loop-block-smaller
loop-block-smaller c = omega (arith, inside (goal.at.loop-block-smaller c).In-Some)

pub loop-block-preserved : goal.loop-block-preserved
loop-block-preserved c =
    let l = c.loop-block in
    l.invariant
    ∙ read_on_block c.args.text.now l.count l.number c.in-Some.ensures.0 _
    (c.with_block-number.ensures ∙ ap (λ (b : ℕ). with_block l.number 100000000 b) (c.eight.ensures ∙ ap decimal c.in-Some.ensures.1))

pub returns : goal.returns
returns c = c.by_digits.ensures ∙ sym c.loop-block.invariant
