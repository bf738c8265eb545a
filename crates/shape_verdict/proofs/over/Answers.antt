-- `shape_verdict::over` meets its contract: in C order the dimensions after the last 0 decide, in Fortran order those before the first.
use mathlib.Core.Path.{refl}
use Rattle.counts.specs.Counts.{items_over}
use Rattle.counts.proofs.Counted.{none_test}
use Rattle.shape_verdict.proofs.over.Goals as goal

pub returns-in-C : goal.returns-in-C
returns-in-C c = rw c.in-C.is (none_test items_over refl (λ a. refl) _ _ c.is_none.ensures)

pub returns-in-Fortran : goal.returns-in-Fortran
returns-in-Fortran c = rw c.in-Fortran.is (none_test items_over refl (λ a. refl) _ _ c.is_none-in-Fortran.ensures)
