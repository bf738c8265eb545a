-- `list_file::list_header` meets its contract: the fronts of the rooms are the record's own parts.
use Rattle.header.specs.Reads.{lent}
use Rattle.list_file.proofs.Whole.{fronts_listed}
use Rattle.list_file.proofs.list_header.Goals as goal

pub returns : goal.returns
returns c =
    let a = c.args in
    fronts_listed a.h (lent a.table.now a.names.now a.shape.now) a.out.now _ _ _ _ c.list.result
    c.table_of.ensures c.names_of.ensures c.shape_of.ensures c.list.ensures
