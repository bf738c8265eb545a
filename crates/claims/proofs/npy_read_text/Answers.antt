-- The reader's contract, with every reading that keeps the promise.
use Rattle.header.specs.Reads.{lent}
use Rattle.claims.proofs.Readings.{npy_read_text_tied}
use Rattle.claims.proofs.npy_read_text.Goals as goal

pub returns : goal.returns
returns c =
    let a = c.args in
    npy_read_text_tied a.text.now (lent a.table.now a.names.now a.shape.now) a.said.now _ _ _ c.npy_read_text.ensures
