-- 5, then 6 or 7, then the value.
use mathlib.Core.Path.{sym, ◌∙◌}
use Rattle.counts.proofs.OneOutcome.{matched}
use Rattle.refusal.specs.declared.Refusal.{Refusal}
use Rattle.literal_bytes.specs.Text.{skip}
use Rattle.utf8.specs.Answer.{answer}
use Rattle.judge.proofs.Tests.{refused_by}
use Rattle.judge.proofs.Top.{ill_record, ended_so, fault_record, deep_record, value_got, value_judged}
use Rattle.judge.proofs.judge.Goals as goal

pub returns-in_default : goal.returns-in_default
returns-in_default c =
    let s = c.args.text.now in
    refused_by s (skip s 0) Refusal.NotUtf8 _ (ill_record s (matched answer c.check.ensures.answered c.in_default.is))

pub returns-in-Value : goal.returns-in-Value
returns-in-Value c =
    let s = c.args.text.now in
    let well = matched answer c.check.ensures.answered c.in-Ok.is in
    let at = c.blanks in
    let w = c.keys-walked in
    let e = sym c.in-Value.is ∙ ended_so s well _ _ at.result at.ensures w.ensures.ended c.whole.ensures in
    let v = value_got s well at.result _ e at.ensures in
    value_judged s well at.result c.judge_keys.result _ e at.ensures (c.judge_keys.ensures s at.result (w.ensures.keys v.0 v.1 v.2))

pub returns-in-Fault : goal.returns-in-Fault
returns-in-Fault c =
    let s = c.args.text.now in
    let well = matched answer c.check.ensures.answered c.in-Ok.is in
    let at = c.blanks in
    let e = ended_so s well _ _ at.result at.ensures c.keys-walked.ensures.ended c.whole.ensures in
    refused_by s (skip s 0) Refusal.Fault _ (fault_record s well _ (sym c.in-Fault.is ∙ e))

pub returns-in-Deep : goal.returns-in-Deep
returns-in-Deep c =
    let s = c.args.text.now in
    let well = matched answer c.check.ensures.answered c.in-Ok.is in
    let at = c.blanks in
    let e = ended_so s well _ _ at.result at.ensures c.keys-walked.ensures.ended c.whole.ensures in
    refused_by s (skip s 0) Refusal.Depth _ (deep_record s well _ (sym c.in-Deep.is ∙ e))
