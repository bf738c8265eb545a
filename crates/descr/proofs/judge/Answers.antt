-- No value, and the verdict is as for one of another form; or a value, and the walk has judged it.
use borrow.Enum.Refused.{opened}
use mathlib.Core.Path.{refl}
use Rattle.literal_bytes.proofs.Ends.{stops}
use Rattle.descr.proofs.Whole.{judged_none, judged_at}
use Rattle.descr.proofs.judge.Goals as goal

pub returns-in_default : goal.returns-in_default
returns-in_default c =
    let a = c.args in
    judged_none a.room a.text.now a.at c.judge-r.result _ c.judge-r.ensures (stops c.judge-r.result.ended (opened c.in_default.in_default-own.keys2)) refl refl

pub returns : goal.returns
returns c =
    let a = c.args in
    judged_at a.room a.text.now a.at c.judge-r.result _ c.judge-r.ensures c.in-Value.is
