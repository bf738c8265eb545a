-- `place::field_at` meets its contract. The loop keeps that entry c is where field k begins, and `before` the bytes of the fields before it (`PassingFields`), which are not over.
use Rattle.place.proofs.Walks.{in_table_room, passing_start, passing_turn, passing_over, passing_next, passing_end}
use mathlib.Core.Path.{sym, ◌∙◌}
use native.Mathlib.Omega.{arith}
use Rattle.place.proofs.field_at.Goals as goal

pub overflow_add-c : goal.overflow_add-c
overflow_add-c c = omega (arith, in_table_room _ _ _ c.requires.1)

pub loop-init : goal.loop-init
loop-init c = passing_start _ _ _

pub returns-in_default : goal.returns-in_default
returns-in_default c =
    let l = c.loop in
    let turn = passing_turn _ _ _ l.c l.before.0 l.counter l.invariant c.loop-test.true c.requires _ c.entry_at-field.ensures in
    passing_over _ _ _ _ turn (sym c.in_default.is ∙ c.plus.ensures)

pub overflow_add-c-in-loop : goal.overflow_add-c-in-loop
overflow_add-c-in-loop c =
    let l = c.loop in
    omega (arith, (passing_turn _ _ _ l.c l.before.0 l.counter l.invariant c.loop-test.true c.requires _ c.entry_at-field.ensures).inside)

pub loop-preserved : goal.loop-preserved
loop-preserved c =
    let l = c.loop in
    passing_next _ _ _ l.c l.before.0 l.counter l.invariant c.loop-test.true _ c.entry_at-field.ensures _ (sym c.in-Some.is ∙ c.plus.ensures)

pub returns : goal.returns
returns c = passing_end _ _ _ c.loop.c c.loop.before c.loop.counter c.loop.invariant c.loop-test.false
