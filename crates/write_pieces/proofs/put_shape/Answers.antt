-- `write_pieces::put_shape` meets its contract: the dimensions between two brackets.
use Rattle.write_pieces.proofs.Quoted.{between, shape_emits}
use Rattle.write_pieces.proofs.put_shape.Goals as goal

pub returns : goal.returns
returns c = shape_emits c.args.shape.now _ _ _ _ (between _ _ _ _ _ _ _ _ _ _ _ c.put-inside.ensures c.put_numbers-after_last.ensures c.put.ensures)
