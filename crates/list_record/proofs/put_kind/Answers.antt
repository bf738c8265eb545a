-- `listing::put_kind` meets its contract: each kind by itself.
use Rattle.list_text.proofs.Pieces.{kind_plain, kind_array, kind_record}
use Rattle.list_record.proofs.put_kind.Goals as goal

pub returns-then-entry-eq-PLAIN : goal.returns-then-entry-eq-PLAIN
returns-then-entry-eq-PLAIN c = kind_plain c.args.entry _ _ _ _ _ _ c.args.entry.kind c.if-entry-eq-PLAIN.true c.put_bytes-at_type.ensures c.put_type.ensures

pub returns-then-entry-eq-ARRAY : goal.returns-then-entry-eq-ARRAY
returns-then-entry-eq-ARRAY c = kind_array c.args.entry _ _ _ _ _ _ c.args.entry.kind c.if-entry-eq-ARRAY.true c.put_bytes-at_length.ensures c.put_count.ensures

pub returns : goal.returns
returns c = kind_record c.args.entry _ _ _ _ _ _ c.args.entry.kind c.if-entry-eq-PLAIN.false c.if-entry-eq-ARRAY.false c.put_bytes-at_fields.ensures c.put_count-2.ensures
