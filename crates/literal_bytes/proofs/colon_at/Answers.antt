-- The colon, and the blanks after it; a fault is passed on.
use borrow.Enum.Refused.{opened}
use mathlib.Core.Path.{sym, ap, ◌∙◌}
use Rattle.literal_bytes.specs.declared.Parsed.TheVariants.{Value}
use Rattle.literal_bytes.specs.Gaps.{begins_by}
use Rattle.literal_bytes.proofs.Ends.{stops}
use Rattle.literal_bytes.proofs.GapEnds.{begins_stop}
use Rattle.literal_bytes.proofs.colon_at.Goals as goal

pub returns-in_default : goal.returns-in_default
returns-in_default c =
    let a = c.args in
    let n = c.need-c in
    begins_stop a.text.now n.result (stops n.result (opened c.in_default.in_default-own.keys2)) ∙ ap (begins_by a.text.now) n.ensures

pub returns : goal.returns
returns c =
    let a = c.args in
    let n = c.need-c in
    ap Value c.blanks.ensures ∙ ap (begins_by a.text.now) (sym c.in-Value.is ∙ n.ensures)
