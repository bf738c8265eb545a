-- The contract, with every reading that keeps the promise.
use Rattle.claims.proofs.Readings.{find_tied}
use Rattle.claims.proofs.get_file_find.Goals as goal

pub returns : goal.returns
returns c =
    let a = c.args in
    find_tied a.longer a.held.now a.length.0 a.index.now a.path.now c.find.result c.find.ensures
