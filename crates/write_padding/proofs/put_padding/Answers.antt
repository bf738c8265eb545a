-- `write_padding::put_padding` meets its contract: spaces, LF.
use Rattle.emit.proofs.Pieces.{emits_then}
use Rattle.write_padding.proofs.put_padding.Goals as goal

pub returns : goal.returns
returns c = emits_then _ _ _ _ _ _ _ _ c.put_spaces-after_spaces.ensures c.put.ensures
