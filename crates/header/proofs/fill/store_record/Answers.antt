-- 23, or the rooms are filled.
use mathlib.Core.Path.{sym, ◌∙◌}
use Rattle.shape_text.proofs.Stored.{stored_shape}
use Rattle.header.proofs.Storing.{store_23, fill_due, store_fits}
use Rattle.header.proofs.fill.store_record.Goals as goal

pub returns-then-too_small : goal.returns-then-too_small
returns-then-too_small c =
    let a = c.args in
    λ r h. store_23 a.text.now a.plan r h a.table.now a.names.now a.shape.now (sym c.too_small.ensures ∙ c.if-too_small.true)

pub fill-requires : goal.fill-requires
fill-requires c =
    let a = c.args in
    let x = c.requires in
    fill_due a.text.now a.plan x.0 x.1 a.table.now a.names.now a.shape.now (sym c.too_small.ensures ∙ c.if-too_small.false)

pub returns : goal.returns
returns c =
    let a = c.args in
    λ r h. store_fits a.text.now a.plan r h a.table.now a.names.now a.shape.now (sym c.too_small.ensures ∙ c.if-too_small.false) c.fill.result c.fill-2.result _ _ _ c.fill.ensures (stored_shape _ a.text.now a.plan.shape.at _ _ _ c.fill-2.ensures)
