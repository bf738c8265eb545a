-- Within the text the default of `get_or` does not count; past its end it is 256.
use mathlib.Core.Path.{sym}
use native.Mathlib.Omega.{arith}
use lib.ListN.{get_or-eq_default}
use Rattle.literal_bytes.proofs.Positions.{get_d_any}
use Rattle.literal_bytes.proofs.peek.Goals as goal

pub overflow_cast-result : goal.overflow_cast-result
overflow_cast-result c = omega (arith, c.shared_slice_known-1.given c.args.at)

pub returns-then-at-text : goal.returns-then-at-text
returns-then-at-text c = get_d_any c.args.text.now _ 0 256 c.if-at-text.true

pub returns-else-at-text : goal.returns-else-at-text
returns-else-at-text c = sym (get_or-eq_default c.args.text.now 256 c.if-at-text.false)
