-- `list_record::put_row` meets its contract: a word, the numbers, the line's end.
use Rattle.list_record.proofs.Whole.{row_there}
use Rattle.list_record.proofs.put_row.Goals as goal

pub returns : goal.returns
returns c = row_there c.args.word.now c.args.row.now _ _ _ _ _ _ _ _ c.put_bytes-after_word.ensures c.put_numbers-after_numbers.ensures c.put.ensures
