-- `write_padding::chosen_version` meets its contract, by its two tests.
use Prim.Native.Nat.{◌+◌}
use native.Mathlib.Omega.{arith}
use borrow.Author.Tests.{not-true, not-false}
use Rattle.write_padding.proofs.Plans.{spaces_few, version_three, version_one, version_two}
use Rattle.write_padding.proofs.chosen_version.Goals as goal

pub returns-then-not-ascii : goal.returns-then-not-ascii
returns-then-not-ascii c = version_three _ _ (not-true _ c.if-not-ascii.true-raw)

pub overflow_add-spaces_after : goal.overflow_add-spaces_after
overflow_add-spaces_after c = omega (arith, c.spaces_after.ensures, spaces_few (10 + c.args.n))

pub overflow_add-n-2 : goal.overflow_add-n-2
overflow_add-n-2 c = omega (arith, c.spaces_after.ensures, spaces_few (10 + c.args.n))

pub returns-then-n-spaces_after-le-MOST_SHORT : goal.returns-then-n-spaces_after-le-MOST_SHORT
returns-then-n-spaces_after-le-MOST_SHORT c = version_one _ _ _ (not-false _ c.if-not-ascii.false-raw) c.spaces_after.ensures (omega (arith, c.if-n-spaces_after-le-MOST_SHORT.true))

pub returns-else-n-spaces_after-le-MOST_SHORT : goal.returns-else-n-spaces_after-le-MOST_SHORT
returns-else-n-spaces_after-le-MOST_SHORT c = version_two _ _ _ (not-false _ c.if-not-ascii.false-raw) c.spaces_after.ensures (omega (arith, c.if-n-spaces_after-le-MOST_SHORT.false))
