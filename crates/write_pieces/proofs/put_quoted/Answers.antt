-- `write_pieces::put_quoted` meets its contract: the name between two quotes.
use Rattle.write_pieces.proofs.Quoted.{between}
use Rattle.write_pieces.proofs.put_quoted.Goals as goal

pub returns : goal.returns
returns c = between _ _ _ _ _ _ _ _ _ _ _ c.put-inside.ensures c.put_escaped-after_name.ensures c.put.ensures
