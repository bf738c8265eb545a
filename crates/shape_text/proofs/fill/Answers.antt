-- No list or tuple may begin there, and nothing is stored; or its members are.
use native.Mathlib.Omega.{arith}
use mathlib.Core.Path.{ap, ◌∙◌}
use lib.ListN.{length}
use lib.Seq.{sets}
use Rattle.shape_text.specs.Members.{closing_of}
use Rattle.shape_text.proofs.Stored.{front_nothing, front_some}
use Rattle.shape_text.proofs.fill.Goals as goal

pub returns-then-close-room : goal.returns-then-close-room
returns-then-close-room c =
    let a = c.args in
    let hc = c.closing-close.ensures ∙ ap closing_of c.kind_at.ensures in
    let e = front_nothing a.text.now a.at c.closing-close.result hc a.room c.if-close-room.true in
    record { counted = ap length e.0; stopped = e.1; out_after = ap (sets a.out.now 0) e.0 }

pub overflow_add-at : goal.overflow_add-at
overflow_add-at c =
    let a = c.args in
    let hc = c.closing-close.ensures ∙ ap closing_of c.kind_at.ensures in
    let b = front_some a.text.now a.at c.closing-close.result hc a.room c.if-close-room.false in
    omega (arith, b.1)

pub overflow_sub-room : goal.overflow_sub-room
overflow_sub-room c =
    let a = c.args in
    let hc = c.closing-close.ensures ∙ ap closing_of c.kind_at.ensures in
    let b = front_some a.text.now a.at c.closing-close.result hc a.room c.if-close-room.false in
    omega (arith, b.0)

pub returns : goal.returns
returns c =
    let a = c.args in
    let hc = c.closing-close.ensures ∙ ap closing_of c.kind_at.ensures in
    let b = front_some a.text.now a.at c.closing-close.result hc a.room c.if-close-room.false in
    let w = c.fill_members.ensures in
    record { counted = w.counted ∙ ap length b.2; stopped = w.stopped ∙ b.3; out_after = w.out_after ∙ ap (sets a.out.now 0) b.2 }
