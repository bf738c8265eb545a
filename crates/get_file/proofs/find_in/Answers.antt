-- The fronts of the rooms are the record.
use Rattle.header.specs.Reads.{lent}
use Rattle.get_file.proofs.Finds.{placed_fronts}
use Rattle.get_file.proofs.find_in.Goals as goal

pub returns : goal.returns
returns c = λ r h.
    let a = c.args in
    placed_fronts _ _ r a.h.info (lent a.table.now a.names.now a.shape.now) _ _ h _ _ _ c.place.result c.table_of.ensures c.names_of.ensures c.shape_of.ensures c.place.ensures
