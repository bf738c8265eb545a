-- `listing::put_entry` meets its contract: the pieces of a line in turn.
use Rattle.list_text.proofs.Pieces.{line_of}
use Rattle.list_record.proofs.put_entry.Goals as goal

pub returns : goal.returns
returns c = line_of c.args.table.now c.args.e c.args.name.now c.entry_at-entry.result c.is_field.result _ _ _ _ _ _ _ _ _ _ _ _ _ _ _ _ c.entry_at-entry.ensures c.is_field.ensures c.put_count-after_number.ensures c.put-at_parent.ensures c.put_parent-after_parent.ensures c.put-at_kind.ensures c.put_kind-after_kind.ensures c.put_name-after_name.ensures c.put.ensures
