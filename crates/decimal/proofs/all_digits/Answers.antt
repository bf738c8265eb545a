-- The invariant: the block passes where the bytes passed and those that are left do.
use native.Mathlib.Omega.{arith}
use mathlib.Core.Path.{refl, ap}
use mathlib.Core.Bool.{Bool, ◌&&◌}
use Rattle.decimal.specs.Decimal.{is_digit}
use Rattle.decimal.proofs.Blocks.{all_step, all_end}
use Rattle.decimal.proofs.all_digits.Goals as goal

pub loop-b-init : goal.loop-b-init
loop-b-init c = refl

pub loop-b-preserved : goal.loop-b-preserved
unfolding is_digit
loop-b-preserved c =
    let l = c.loop-b in
    all_step c.args.block.now l.b-index l.all _ _ (omega (arith, c.loop-b-test.true, c.told-block)) l.invariant (ap (λ (t : Bool). l.all && t) c.is_ascii_digit-all.ensures.value)

pub returns : goal.returns
returns c = all_end c.args.block.now c.loop-b.b-index c.loop-b.all _ (omega (arith, c.loop-b-test.false, c.told-block)) c.loop-b.invariant
