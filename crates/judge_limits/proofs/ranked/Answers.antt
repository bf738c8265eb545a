-- One test.
use native.Mathlib.Omega.{arith}
use mathlib.Core.Path.{refl}
use borrow.Author.Tests.{lt-ltb, le-ltb}
use Rattle.judge_limits.proofs.ranked.Goals as goal

pub returns-then-outline-gt-MOST_DIMENSIONS : goal.returns-then-outline-gt-MOST_DIMENSIONS
returns-then-outline-gt-MOST_DIMENSIONS c = rw (lt-ltb 32 c.args.outline.rank (omega (arith, c.if-outline-gt-MOST_DIMENSIONS.true))) refl

pub returns : goal.returns
returns c = rw (le-ltb 32 c.args.outline.rank (omega (arith, c.if-outline-gt-MOST_DIMENSIONS.false))) refl
