-- `check_table::record_agrees` meets its contract. The loop keeps that the record agrees exactly if its fields from entry c on do, with the bytes before them (`Linking`).
use Rattle.check_table.proofs.Fields.{one_left, field_view, linking_next}
use Rattle.check_table.proofs.Tests.{no}
use mathlib.Core.Path.{ap}
use native.Mathlib.Omega.{arith}
use Rattle.counts.specs.declared.Bytes.{Bytes}
use Rattle.check_table.proofs.record_agrees.Goals as goal

pub returns-then-stop-c : goal.returns-then-stop-c
returns-then-stop-c c = no (λ h. let k = ((one_left _ _ _ _ _ _ _ _ _ c.loop.invariant c.loop-test.true).there h).0 in omega (arith, c.if-stop-c.true))

pub returns-then-field-e : goal.returns-then-field-e
returns-then-field-e c = no (λ h. c.if-field-e.true (field_view _ _ _ _ _ _ _ _ (one_left _ _ _ _ _ _ _ _ _ c.loop.invariant c.loop-test.true) _ c.entry_at-field.ensures h).1)

pub returns-then-stop-c-2 : goal.returns-then-stop-c-2
returns-then-stop-c-2 c = no (λ h. let k = (field_view _ _ _ _ _ _ _ _ (one_left _ _ _ _ _ _ _ _ _ c.loop.invariant c.loop-test.true) _ c.entry_at-field.ensures h).2 in omega (arith, c.if-stop-c-2.true))

pub loop-preserved : goal.loop-preserved
loop-preserved c =
    linking_next _ _ _ _ _ _ _ _ (one_left _ _ _ _ _ _ _ _ _ c.loop.invariant c.loop-test.true) _ _ c.entry_at-field.ensures (omega (arith, c.if-stop-c.false)) c.if-field-e.false (omega (arith, c.if-stop-c-2.false)) (ap (λ (b : Bytes). b.0) c.held_sum-bytes.ensures)
