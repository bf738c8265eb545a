-- `string_element::point_at` meets its contract: fewer than four bytes, a number that is no scalar value, or the scalar value.
use Prim.Native.Nat.{◌+◌, ◌-◌}
use mathlib.Core.Path.{sym, ◌∙◌}
use native.Mathlib.Omega.{arith}
use lib.ListN.{length-drop}
use borrow.Author.Tests.{not-true, not-false}
use Rattle.counts.proofs.Fits.{number_is_back, number_over_back}
use Rattle.string_value.proofs.Scalars.{point_short, read_over, read_none, read_scalar}
use Rattle.string_element.proofs.point_at.Goals as goal
use Rattle.string_element.proofs.point_at.Goals.{then-run-lt4-via-then-run-lt4, then-run-lt4-via-else-run-lt4+then-run-at, then-n-gt1114111-via-then-n-gt1114111, then-n-gt1114111-via-else-n-gt1114111+then-not-is_scalar}

pub returns-then-run-lt4 : goal.returns-then-run-lt4
returns-then-run-lt4 c =
    sym (point_short _ _ (rw length-drop (elim c.then-run-lt4.branch [ then-run-lt4-via-then-run-lt4 w ↦ omega arith | then-run-lt4-via-else-run-lt4+then-run-at w ↦ omega arith ])))

pub returns-in_err-n : goal.returns-in_err-n
returns-in_err-n c =
    rw c.from_residual.ensures
    (read_over c.args.order c.args.run.now c.args.at (c.args.at + 4 - c.args.at) (omega arith) (omega arith) (omega (arith, number_over_back _ (sym c.read.ensures ∙ c.in_err-n.was))))

pub returns-then-n-gt1114111 : goal.returns-then-n-gt1114111
returns-then-n-gt1114111 c =
    let here = (number_is_back _ _ (sym c.read.ensures ∙ c.in_ok-n.was)).0 in
    elim c.then-n-gt1114111.branch [
      | then-n-gt1114111-via-then-n-gt1114111 w ↦ read_over c.args.order c.args.run.now c.args.at (c.args.at + 4 - c.args.at) (omega arith) (omega arith) (omega (arith, here))
      | then-n-gt1114111-via-else-n-gt1114111+then-not-is_scalar w ↦ read_none c.args.order c.args.run.now c.args.at (c.args.at + 4 - c.args.at) (omega arith) (omega arith) _ here (sym w.is_scalar.ensures ∙ not-true _ w.if-not-is_scalar.true-raw)
    ]

pub returns : goal.returns
returns c =
    read_scalar c.args.order c.args.run.now c.args.at (c.args.at + 4 - c.args.at) (omega arith) (omega arith) _
    (number_is_back _ _ (sym c.read.ensures ∙ c.in_ok-n.was)).0
    (sym c.is_scalar.ensures ∙ not-false _ c.if-not-is_scalar.false-raw)
