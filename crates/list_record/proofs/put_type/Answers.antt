-- `listing::put_type` meets its contract: the type, or nothing.
use Rattle.list_text.proofs.Pieces.{type_none, type_given}
use Rattle.list_record.proofs.put_type.Goals as goal

pub returns-in_default : goal.returns-in_default
returns-in_default c = type_none _ _ _ _ c.type_of.ensures c.in_default.is

pub returns : goal.returns
returns c = type_given _ _ _ _ _ _ _ c.type_of.ensures c.in-Some.is c.put.ensures
