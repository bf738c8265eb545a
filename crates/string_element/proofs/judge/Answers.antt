-- `string_element::judge` meets its contract: each turn takes one code point more.
use Prim.Native.Nat.{◌+◌}
use mathlib.Core.Path.{sym}
use native.Mathlib.Omega.{arith}
use Rattle.counts.proofs.OneOutcome.{matched}
use Rattle.string_element.specs.Answer.{point_answer}
use Rattle.string_value.proofs.Scalars.{Judging, judging_start, judging_some, judging_zero, judging_bad, judging_end}
use Rattle.string_element.proofs.judge.Goals as goal
use Rattle.string_element.proofs.judge.Goals.{Joined-p-ne0, then-p-ne0, else-p-ne0}

pub loop-at-init : goal.loop-at-init
loop-at-init c = judging_start _ _

pub returns-in_default : goal.returns-in_default
returns-in_default c = judging_bad _ _ _ _ _ c.loop-at.invariant c.loop-at-test.true (sym (matched point_answer c.point_at.ensures c.in_default.is))

judged : (c : goal.Joined-p-ne0) → Judging c.args.order c.args.run.now (c.loop-at.at + 4) (c.loop-at.count + 1) c.if-p-ne0.kept
judged c =
    let here = sym (matched point_answer c.point_at.ensures c.in-Some.is) in
    elim c.if-p-ne0.branch [
      | then-p-ne0 w ↦ rw w.kept-is (judging_some _ _ _ _ _ _ c.loop-at.invariant here w.if-p-ne0.true)
      | else-p-ne0 w ↦ rw w.kept-is (judging_zero _ _ _ _ _ _ c.loop-at.invariant here w.if-p-ne0.false)
    ]

pub loop-at-preserved : goal.loop-at-preserved
loop-at-preserved c = judged (goal.at.loop-at-preserved c).Joined-p-ne0

pub returns-after-p-ne0 : goal.returns-after-p-ne0
returns-after-p-ne0 c = judging_end _ _ _ _ _ (judged (goal.at.returns-after-p-ne0 c).Joined-p-ne0) (omega arith)
