-- `write_pieces::put_dimension` meets its contract: the digits, and then the comma.
use Rattle.emit.proofs.Pieces.{emits_then}
use Rattle.write_pieces.proofs.put_dimension.Goals as goal

pub returns : goal.returns
returns c = emits_then _ _ _ _ _ _ _ _ c.put_count-after_number.ensures c.put.ensures
