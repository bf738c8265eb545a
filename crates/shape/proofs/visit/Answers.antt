-- `shape::visit` meets its contract, by the two orders.
use borrow.Author.Rules.{rules}
use Rattle.shape.proofs.visit.Goals as goal

pub returns-in-C : goal.returns-in-C
returns-in-C c = (rw c.in-C.is, search rules)

pub returns-in-Fortran : goal.returns-in-Fortran
returns-in-Fortran c = (rw c.in-Fortran.is, search rules)
