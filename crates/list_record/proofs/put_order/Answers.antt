-- `listing::put_order` meets its contract: each order by itself.
use Rattle.list_text.proofs.Pieces.{order_known}
use Rattle.list_record.proofs.put_order.Goals as goal

pub returns-in-C : goal.returns-in-C
returns-in-C c = order_known _ _ _ _ _ _ c.in-C.is c.put_bytes.ensures

pub returns-in-Fortran : goal.returns-in-Fortran
returns-in-Fortran c = order_known _ _ _ _ _ _ c.in-Fortran.is c.put_bytes-in-Fortran.ensures
