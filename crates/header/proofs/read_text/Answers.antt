-- The text is judged, and then its record is stored.
use Rattle.counts.proofs.HandedOn.{handed_on}
use Rattle.header.specs.Reads.{lent}
use Rattle.header.proofs.Text.{text_plan, text_stored, text_refused}
use Rattle.header.proofs.read_text.Goals as goal

pub store_record-requires : goal.store_record-requires
store_record-requires c = text_plan c.args.text.now c.judge.result c.judge.ensures _ c.in_ok-plan.was

pub returns : goal.returns
returns c =
    let a = c.args in
    text_stored a.text.now c.judge.result c.judge.ensures _ (lent a.table.now a.names.now a.shape.now) c.store_record.result _ c.in_ok-plan.was c.store_record.ensures

pub returns-in_err-plan : goal.returns-in_err-plan
returns-in_err-plan c = let a = c.args in rw (handed_on _ c.in_err-plan.field-0.0 c.from_residual.ensures)
    (text_refused a.text.now c.judge.result c.judge.ensures _ (lent a.table.now a.names.now a.shape.now) c.in_err-plan.was)
