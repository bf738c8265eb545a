-- Measured, and then put.
use Rattle.counts.proofs.HandedOn.{handed_on}
use native.Mathlib.Omega.{arith}
use mathlib.Core.Path.{sym, subst, ◌∙◌}
use Rattle.std.specs.Prelude.{Result}
use Rattle.counts.specs.declared.Bytes.{Bytes}
use Rattle.refusal.specs.declared.Refusal.{Refusal}
use Rattle.element_text.specs.Puts.{PutsElement}
use Rattle.element_text.proofs.Lines.{put_refused, put_short, put_whole}
use Rattle.element_text.proofs.put.Goals as goal

pub returns-in_err-n : goal.returns-in_err-n
returns-in_err-n c =
    let a = c.args in
    subst (λ (r : Result Bytes Refusal). PutsElement a.t a.run.now a.out.now r a.out.now)
    (c.in_err-n.was ∙ sym (handed_on _ c.in_err-n.field-0.0 c.from_residual.ensures))
    (put_refused _ a.run.now _ _ _ _ c.put_line.ensures _ c.in_err-n.was)

pub returns-then-out-n : goal.returns-then-out-n
returns-then-out-n c = put_short _ c.args.run.now _ _ _ _ c.put_line.ensures _ c.in_ok-n.was (omega arith) (omega arith) c.if-out-n.true

pub returns : goal.returns
returns c = put_whole _ c.args.run.now _ _ _ _ c.put_line.ensures _ c.in_ok-n.was (omega arith) (omega arith) _ _ c.if-out-n.false c.put_line-2.ensures
