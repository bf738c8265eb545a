-- The contract, with every reading that keeps the promise, and that the bytes are u8.
use Rattle.header.specs.Reads.{lent}
use Rattle.value.proofs.Runs.{all_bytes}
use Rattle.claims.proofs.Readings.{npy_feed_tied}
use Rattle.claims.proofs.npy_feed.Goals as goal

pub returns : goal.returns
returns c =
    let a = c.args in
    npy_feed_tied a.feeder.now a.part.now a.text.now (lent a.table.now a.names.now a.shape.now) a.said.now a.used.now _ _ _ _ _ _
    (all_bytes a.part.now c.shared_slice_known-1.given) (all_bytes a.text.now c.slice_known-1.given) c.npy_feed.ensures
