-- What `?` returns where it ends the function: the error that it was given.
use mathlib.Core.Path.{◌≡◌, ap}
use Rattle.std.specs.Prelude.{Result, Ok, Err, IsErr, IsErrAnd}

pub handed_on : {A E : Type 0} (r : Result A E) (e : E) → IsErr r × IsErrAnd r (λ f. f ≡ e) → r ≡ Err e
handed_on (Err f) e (_, h) = ap Err h
handed_on (Ok a) e (_, h) = absurd h
