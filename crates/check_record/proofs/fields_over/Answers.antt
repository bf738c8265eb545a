-- `check_record::fields_over` meets its contract. The loop keeps that the fields' bytes are the sum so far, which fits, and those of the fields from entry c on (`Summing`).
use Rattle.check_record.proofs.Fields.{one_left, summing_start, field_in, summing_over, summing_next, summing_end}
use Rattle.counts.proofs.Counted.{bytes_back, bytes_over_lem}
use native.Mathlib.Omega.{arith}
use Prim.Native.Nat.{◌-◌}
use mathlib.Core.Path.{◌≡◌, ap, sym, ◌∙◌}
use Rattle.check_record.proofs.fields_over.Goals as goal

pub loop-init : goal.loop-init
loop-init c = let z : c.entry_at-entry.result.number - 0 ≡ c.entry_at-entry.result.number = omega arith in rw z (summing_start _ _ _ _ c.entry_at-entry.ensures c.requires.1)

pub returns-in_default : goal.returns-in_default
returns-in_default c = let l = c.loop in
    summing_over _ _ _ _ l.c l.bytes.0 (one_left _ _ _ _ l.counter _ _ l.invariant c.loop-test.true) _ c.entry_at-field.ensures (bytes_over_lem _ (sym c.in_default.is ∙ c.plus.ensures))

pub overflow_add-c-in-loop : goal.overflow_add-c-in-loop
overflow_add-c-in-loop c = let l = c.loop in
    omega (arith, field_in _ _ _ _ l.c l.bytes.0 (one_left _ _ _ _ l.counter _ _ l.invariant c.loop-test.true), ap (λ x. x.extent) c.entry_at-field.ensures, c.ranges.n)

pub loop-preserved : goal.loop-preserved
loop-preserved c = let l = c.loop in
    let b = bytes_back _ _ (sym c.in-Some.is ∙ c.plus.ensures) in
    summing_next _ _ _ _ l.c l.bytes.0 (one_left _ _ _ _ l.counter _ _ l.invariant c.loop-test.true) _ _ c.entry_at-field.ensures (sym b.0) (omega (arith, b.0, b.1))

pub returns : goal.returns
returns c = summing_end _ _ _ _ c.loop.c c.loop.bytes.0 c.loop.invariant (omega (arith, c.loop-test.false))
