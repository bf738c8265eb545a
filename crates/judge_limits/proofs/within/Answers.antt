-- Each limit in its order.
use mathlib.Core.Path.{refl, sym, ◌∙◌}
use Rattle.judge_limits.proofs.within.Goals as goal

pub returns-then-totals : goal.returns-then-totals
returns-then-totals c = rw c.if-totals.true refl

pub returns-then-totals-2 : goal.returns-then-totals-2
returns-then-totals-2 c = rw (c.if-totals.false, c.if-totals-2.true) refl

pub returns-then-totals-3 : goal.returns-then-totals-3
returns-then-totals-3 c = rw (c.if-totals.false, c.if-totals-2.false, c.if-totals-3.true) refl

pub returns-then-over : goal.returns-then-over
returns-then-over c = rw (c.if-totals.false, c.if-totals-2.false, c.if-totals-3.false, sym c.over.ensures ∙ c.if-over.true) refl

pub returns : goal.returns
returns c = rw (c.if-totals.false, c.if-totals-2.false, c.if-totals-3.false, sym c.over.ensures ∙ c.if-over.false) refl
