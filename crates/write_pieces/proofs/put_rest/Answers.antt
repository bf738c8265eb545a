-- `write_pieces::put_rest` meets its contract, piece by piece.
use Rattle.write_pieces.proofs.Rest.{rest_emits}
use Rattle.write_pieces.proofs.put_rest.Goals as goal

pub returns : goal.returns
returns c = rest_emits c.args.shape.now c.args.order _ _ _ _ _ _ _ _ _ _ _ _ c.put_bytes-after_key.ensures c.put_order-after_order.ensures c.put_bytes-at_shape.ensures c.put_shape-after_shape.ensures c.put_bytes.ensures
