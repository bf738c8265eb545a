-- `check_table::names_match` meets its contract. The loop keeps that the names of the entries passed are well-formed, and that the next one begins at `start`, which is in
-- the names (`Naming`).
use Rattle.check_table.proofs.Naming.{naming_start, name_past, name_ill, naming_next, naming_end}
use Rattle.check_table.proofs.Tests.{no}
use borrow.Author.Tests.{not-true, not-false}
use mathlib.Core.Path.{refl}
use Rattle.check_table.proofs.names_match.Goals as goal

pub loop-e-init : goal.loop-e-init
loop-e-init c = naming_start _ _ _

pub returns-then-names-start : goal.returns-then-names-start
returns-then-names-start c = let l = c.loop-e in no (name_past _ _ _ l.start l.e l.invariant c.loop-e-test.true _ c.entry_at-entry.ensures c.if-names-start.true)

pub returns-then-not-is_utf8 : goal.returns-then-not-is_utf8
returns-then-not-is_utf8 c = let l = c.loop-e in no (name_ill _ _ _ l.start l.e l.invariant c.loop-e-test.true _ c.entry_at-entry.ensures _ refl _ c.is_utf8.ensures (not-true _ c.if-not-is_utf8.true-raw))

pub loop-e-preserved : goal.loop-e-preserved
loop-e-preserved c = let l = c.loop-e in naming_next _ _ _ l.start l.e l.invariant c.loop-e-test.true _ c.entry_at-entry.ensures _ refl _ c.is_utf8.ensures c.if-names-start.false (not-false _ c.if-not-is_utf8.false-raw)

pub returns : goal.returns
returns c = naming_end _ _ _ c.loop-e.start c.loop-e.e c.loop-e.invariant c.loop-e-test.false
