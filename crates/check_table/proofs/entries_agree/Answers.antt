-- `check_table::entries_agree` meets its contract. The loop keeps that each entry from e on agrees.
use Rattle.check_table.proofs.Tests.{no, fails}
use Rattle.table_entry.proofs.Walks.{one_more}
use Rattle.check_table.specs.Decides.{SoundEntry}
use borrow.Author.Tests.{not-true, not-false}
use native.Mathlib.Omega.{arith}
use mathlib.Core.Path.{refl}
use Prim.Native.Nat.{◌-◌}
use Rattle.check_table.proofs.entries_agree.Goals as goal

pub loop-e-init : goal.loop-e-init
loop-e-init c = (omega arith, λ k l u. absurd (omega arith))

pub returns-then-not-entry_agrees : goal.returns-then-not-entry_agrees
returns-then-not-entry_agrees c = no (λ h. fails _ c.entry_agrees.ensures (not-true _ c.if-not-entry_agrees.true-raw) (h (c.loop-e.e - 1) (omega (arith, c.loop-e.invariant.0, c.loop-e-test.true))))

pub loop-e-preserved : goal.loop-e-preserved
loop-e-preserved c = let a = c.args in (omega arith, one_more (SoundEntry a.table.now a.n) a.n c.loop-e.e (omega (arith, c.loop-e-test.true)) c.loop-e.invariant.1 (c.entry_agrees.ensures.only (not-false _ c.if-not-entry_agrees.false-raw)))

pub returns : goal.returns
returns c = record { only = λ q k l. c.loop-e.invariant.1 k (omega (arith, c.loop-e-test.false)) l; all = λ h. refl }
