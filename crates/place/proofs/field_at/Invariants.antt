-- `place::field_at` meets its contract. The loop keeps that entry c is where field k begins, and `before` the bytes of the fields before it (`PassingFields`), which are not over.
use Rattle.place.proofs.Walks.{PassingFields}
use Rattle.place.proofs.field_at.Given as goal

abbrev pub invariant-loop : goal.invariant-loop
invariant-loop l = PassingFields l.table l.e l.i l.c l.before.0 l.counter
