-- `place::follow` meets its contract. The loop keeps that the first k numbers of the path lead to the dtype at entry e, `before` bytes into the item, and the rest of the path goes on
-- from there (`Walking`), so that these bytes are not over.
use Rattle.place.proofs.Walks.{walking_start, step_asks, walking_nowhere, walking_over, walking_next, ends_nowhere, ends_at}
use Rattle.table_entry.specs.Answer.{type_answer}
use Rattle.counts.proofs.OneOutcome.{matched}
use mathlib.Core.Path.{sym, ◌∙◌}
use Rattle.place.proofs.follow.Goals as goal

pub loop-i-init : goal.loop-i-init
loop-i-init c = walking_start _ _

pub step-requires : goal.step-requires
step-requires c = let l = c.loop-i in step_asks _ _ l.e l.before.0 l.i-index l.invariant c.requires

pub returns-in_default : goal.returns-in_default
returns-in_default c = let l = c.loop-i in λ d h s u. walking_nowhere _ _ l.e l.before.0 l.i-index l.invariant c.loop-i-test.true _ c.step.ensures c.in_default.is d h s

pub returns-in_default-plus : goal.returns-in_default-plus
returns-in_default-plus c =
    let l = c.loop-i in
    walking_over _ _ l.e l.before.0 l.i-index l.invariant c.loop-i-test.true _ c.step.ensures _ c.in-Some.is c.requires (sym c.in_default-plus.is ∙ c.plus.ensures)

pub loop-i-preserved : goal.loop-i-preserved
loop-i-preserved c =
    let l = c.loop-i in
    walking_next _ _ l.e l.before.0 l.i-index l.invariant c.loop-i-test.true _ c.step.ensures _ c.in-Some.is _ (sym c.in-Some-plus.is ∙ c.plus.ensures)

pub returns-in_default-type_of : goal.returns-in_default-type_of
returns-in_default-type_of c = let l = c.loop-i in λ d h s u. ends_nowhere _ _ l.e l.before.0 l.i-index l.invariant c.loop-i-test.false _ c.entry_at-entry.ensures d h s u (matched type_answer c.type_of.ensures c.in_default-type_of.is)

pub returns : goal.returns
returns c = let l = c.loop-i in λ d h s u. ends_at _ _ l.e l.before.0 l.i-index l.invariant c.loop-i-test.false _ c.entry_at-entry.ensures d h s u _ (matched type_answer c.type_of.ensures c.in-Some-type_of.is)
