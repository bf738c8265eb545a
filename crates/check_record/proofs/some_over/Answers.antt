-- `check_record::some_over` meets its contract. The loop keeps that no entry passed is over.
use Rattle.table_entry.proofs.Walks.{none_passes, one_passes}
use Rattle.dtype.specs.Seen.{over_at}
use borrow.Author.Count.{below_more}
use native.Mathlib.Omega.{arith}
use mathlib.Core.Path.{sym, ◌∙◌}
use Rattle.check_record.proofs.some_over.Goals as goal

pub loop-e-init : goal.loop-e-init
loop-e-init c = (omega arith, λ k l. absurd (omega arith))

pub entry_over-requires : goal.entry_over-requires
entry_over-requires c = (c.loop-e-test.true, c.requires c.loop-e.e c.loop-e-test.true)

pub returns-then-entry_over : goal.returns-then-entry_over
returns-then-entry_over c = one_passes (over_at c.args.table.now) _ c.loop-e.e c.loop-e-test.true (sym c.entry_over.ensures ∙ c.if-entry_over.true)

pub loop-e-preserved : goal.loop-e-preserved
loop-e-preserved c = (omega arith, below_more _ _ c.loop-e.invariant.1 (sym c.entry_over.ensures ∙ c.if-entry_over.false))

pub returns : goal.returns
returns c = none_passes (over_at c.args.table.now) c.args.n (λ k l. c.loop-e.invariant.1 k (omega (arith, c.loop-e-test.false)))
