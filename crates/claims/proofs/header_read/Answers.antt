-- The reader's contract, with every reading that keeps the promise.
use Rattle.header.specs.Reads.{lent}
use Rattle.claims.proofs.Readings.{read_tied}
use Rattle.claims.proofs.header_read.Goals as goal

pub returns : goal.returns
returns c =
    let a = c.args in
    read_tied a.file.now (lent a.table.now a.names.now a.shape.now) _ _ c.read.ensures
