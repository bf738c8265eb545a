-- The reader's contract, with every reading that keeps the promise.
use Rattle.header.specs.Reads.{lent}
use Rattle.claims.proofs.Readings.{read_held_tied}
use Rattle.claims.proofs.header_read_held.Goals as goal

pub returns : goal.returns
returns c =
    let a = c.args in
    read_held_tied a.longer a.file.now (lent a.table.now a.names.now a.shape.now) _ _ c.read_held.ensures
