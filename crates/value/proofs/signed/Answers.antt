-- `value::signed` meets its contract: the upper half of the numbers are the negative ones.
use native.Mathlib.Omega.{arith}
use Rattle.value.proofs.Complement.{low, high, down_fits}
use Rattle.value.proofs.signed.Goals as goal

pub overflow_sub-result-else-n-most : goal.overflow_sub-result-else-n-most
overflow_sub-result-else-n-most c = down_fits c.args.n c.args.most c.ranges.most.fits c.requires (omega (arith, c.if-n-most.false))

pub returns-then-n-most : goal.returns-then-n-most
returns-then-n-most c = low c.args.n c.args.most c.ranges.most.fits (omega (arith, c.if-n-most.true))

pub returns-else-n-most : goal.returns-else-n-most
returns-else-n-most c = high c.args.n c.args.most c.ranges.most.fits c.requires (omega (arith, c.if-n-most.false))
