-- By the bracket: as after any item, which in a tuple comes only after its comma; or what is after that comma.
use mathlib.Core.Path.{sym, ◌∙◌}
use Rattle.descr_field.proofs.Reach.{second_list, second_there, second_tuple}
use Rattle.descr_field.proofs.second_at.Goals as goal

pub returns-then-close-ne41 : goal.returns-then-close-ne41
returns-then-close-ne41 c =
    let a = c.args in
    c.then_at-g.ensures ∙ second_list a.text.now a.at a.close c.if-close-ne41.true

pub returns-in-Item : goal.returns-in-Item
returns-in-Item c =
    let a = c.args in
    second_there a.text.now a.at a.close c.then_at-g.result _ c.then_at-g.ensures c.in-Item.is

pub returns-in-Value : goal.returns-in-Value
returns-in-Value c =
    let a = c.args in
    c.gap_at.ensures ∙ second_tuple a.text.now a.at a.close _ c.if-close-ne41.false (sym c.need-c.ensures ∙ c.in-Value.is)

pub returns-in-Fault : goal.returns-in-Fault
returns-in-Fault c =
    let a = c.args in
    second_tuple a.text.now a.at a.close _ c.if-close-ne41.false (sym c.need-c.ensures ∙ c.in-Fault.is)

pub returns-in-Deep : goal.returns-in-Deep
returns-in-Deep c =
    let a = c.args in
    second_tuple a.text.now a.at a.close _ c.if-close-ne41.false (sym c.need-c.ensures ∙ c.in-Deep.is)
