-- `write_pieces::close_field` meets its contract: with a sub-shape where the field's entry is an array's.
use Rattle.write_pieces.proofs.Levels.{sub_none, sub_some}
use Rattle.write_pieces.proofs.close_field.Goals as goal

pub returns-then-entry-eq-ARRAY : goal.returns-then-entry-eq-ARRAY
returns-then-entry-eq-ARRAY c = sub_some c.args.table.now c.args.e _ c.entry_at-entry.ensures _ _ _ _ c.if-entry-eq-ARRAY.true _ _ _ _ c.put_bytes-inside.ensures c.put_levels-after_levels.ensures c.put_bytes.ensures

pub returns : goal.returns
returns c = sub_none c.args.table.now c.args.e _ c.entry_at-entry.ensures _ _ _ _ c.if-entry-eq-ARRAY.false c.put_bytes-2.ensures
