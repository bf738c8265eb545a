-- The contract, and that the numbers of the slices are u64.
use native.Mathlib.Omega.{arith}
use Rattle.claims.proofs.Typed.{small_by}
use Rattle.claims.proofs.write_write_header.Goals as goal

pub returns : goal.returns
returns c =
    let a = c.args in
    record { small_table = small_by a.table.now (λ i. omega (arith, c.shared_slice_known-1.given i)); small_shape = small_by a.shape.now (λ i. omega (arith, c.shared_slice_known-3-1.given i)); writes = c.write_header.ensures }
