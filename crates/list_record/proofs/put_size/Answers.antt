-- `list_record::put_size` meets its contract: a size, or none.
use Rattle.list_text.proofs.Pieces.{size_known}
use Rattle.list_record.proofs.put_size.Goals as goal

pub returns-in_default : goal.returns-in_default
returns-in_default c = size_known _ _ _ _ _ _ c.in_default.is c.put_bytes.ensures

pub returns : goal.returns
returns c = size_known _ _ _ _ _ _ c.in-Some.is c.put_between.ensures
