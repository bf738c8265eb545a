-- `value::bool_in` meets its contract: a byte above 1 is 32.
use native.Mathlib.Omega.{arith}
use borrow.Author.Tests.{lt-ltb, le-ltb}
use Rattle.value.proofs.bool_in.Goals as goal

pub returns-then-n-gt1 : goal.returns-then-n-gt1
returns-then-n-gt1 c = rw (← c.number_in-n.ensures, lt-ltb 1 c.number_in-n.result (omega (arith, c.if-n-gt1.true)))

pub returns : goal.returns
returns c = rw (← c.number_in-n.ensures, le-ltb 1 c.number_in-n.result (omega (arith, c.if-n-gt1.false)))
