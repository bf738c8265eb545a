-- `write_pieces::put_order` meets its contract, by the order.
use Rattle.write_pieces.proofs.put_order.Goals as goal

pub returns-in-C : goal.returns-in-C
returns-in-C c = rw c.in-C.is c.put_bytes.ensures

pub returns-in-Fortran : goal.returns-in-Fortran
returns-in-Fortran c = rw c.in-Fortran.is c.put_bytes-in-Fortran.ensures
