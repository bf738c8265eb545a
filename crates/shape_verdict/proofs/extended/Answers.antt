-- By whether the new dimension is 0, and then whether one before it is.
use Prim.Native.Nat.{ℕ}
use mathlib.Core.Path.{ap, ◌∙◌}
use Rattle.shape_verdict.specs.Outline.{extended_to}
use Rattle.shape_verdict.proofs.Outlines.{extended_zero, extended_empty, extended_more}
use Rattle.shape_verdict.proofs.extended.Goals as goal

pub returns-then-n-eq0 : goal.returns-then-n-eq0
returns-then-n-eq0 c =
    let a = c.args in
    extended_zero _ a.o a.n c.if-n-eq0.true ∙ ap (λ (k : ℕ). extended_to k a.o a.n) c.saturating_add-rank.ensures

pub returns-then-o : goal.returns-then-o
returns-then-o c =
    let a = c.args in
    extended_empty _ a.o a.n _ c.if-n-eq0.false c.if-o.true c.scaled.ensures ∙ ap (λ (k : ℕ). extended_to k a.o a.n) c.saturating_add-rank.ensures

pub returns : goal.returns
returns c =
    let a = c.args in
    extended_more _ a.o a.n _ _ c.if-n-eq0.false c.if-o.false c.scaled-2.ensures c.scaled-3.ensures ∙ ap (λ (k : ℕ). extended_to k a.o a.n) c.saturating_add-rank.ensures
