-- `write_pieces::open_field` meets its contract, piece by piece.
use Rattle.emit.proofs.Pieces.{emits_then}
use Rattle.write_pieces.proofs.open_field.Goals as goal

pub returns : goal.returns
returns c = emits_then _ _ _ _ _ _ _ _ (emits_then _ _ _ _ _ _ _ _ c.put-inside.ensures c.put_quoted-after_name.ensures) c.put_bytes.ensures
