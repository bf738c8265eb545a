-- `list_file::put_read` meets its contract: a header is listed, and of a refusal the number is put.
use Rattle.header.specs.Reads.{lent}
use Rattle.list_file.proofs.Whole.{said_read, said_refused}
use Rattle.list_file.proofs.put_read.Goals as goal

pub returns-in-Ok : goal.returns-in-Ok
returns-in-Ok c =
    let a = c.args in
    said_read a.said _ (lent a.table.now a.names.now a.shape.now) _ c.list_header.result _ c.in-Ok.is c.list_header.ensures

pub returns-in-Err : goal.returns-in-Err
returns-in-Err c =
    let a = c.args in
    said_refused a.said _ (lent a.table.now a.names.now a.shape.now) _ c.put_refused.result _ c.in-Err.is c.put_refused.ensures
