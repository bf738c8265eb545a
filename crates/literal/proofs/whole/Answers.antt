-- Only blanks after the value, as in the definition; a refusal is passed on.
use borrow.Enum.Refused.{opened}
use Rattle.literal_bytes.proofs.Ends.{stops}
use Rattle.literal.proofs.Steps.{whole_done, whole_more, whole_stop}
use Rattle.literal.proofs.whole.Goals as goal

pub returns-in_default : goal.returns-in_default
returns-in_default c =
    let a = c.args in
    whole_stop a.text.now a.r (stops a.r (opened c.in_default.in_default-own.keys2))

pub returns-then-e-text : goal.returns-then-e-text
returns-then-e-text c =
    let a = c.args in
    whole_done a.text.now a.r _ _ c.in-Value.is c.blanks-e.ensures c.if-e-text.true

pub returns-else-e-text : goal.returns-else-e-text
returns-else-e-text c =
    let a = c.args in
    whole_more a.text.now a.r _ _ c.in-Value.is c.blanks-e.ensures c.if-e-text.false
