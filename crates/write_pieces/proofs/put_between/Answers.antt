-- `write_pieces::put_between` meets its contract: text, number, text.
use Rattle.emit.proofs.Pieces.{emits_then}
use Rattle.write_pieces.proofs.put_between.Goals as goal

pub returns : goal.returns
returns c = emits_then _ _ _ _ _ _ _ _ (emits_then _ _ _ _ _ _ _ _ c.put_bytes-inside.ensures c.put_count-after_number.ensures) c.put_bytes.ensures
