-- `header_feed::held` meets its contract.
use native.Mathlib.Omega.{arith}
use Rattle.header_feed.proofs.Prefixes.{start_bounds}
use Rattle.header_feed.proofs.held.Goals as goal

pub overflow_add-start_in : goal.overflow_add-start_in
overflow_add-start_in c = omega (arith, c.start_in.ensures, start_bounds c.args.head, c.requires)
