-- `place::step` meets its contract, by the entry's kind.
use Rattle.place.proofs.Walks.{in_table_room, at_plain, past, into, into_over, field_asks, to_field}
use mathlib.Core.Path.{sym, ◌∙◌}
use native.Mathlib.Omega.{arith}
use Rattle.place.proofs.step.Goals as goal

pub returns-then-entry-eq-PLAIN : goal.returns-then-entry-eq-PLAIN
returns-then-entry-eq-PLAIN c = at_plain _ _ _ _ c.entry_at-entry.ensures c.if-entry-eq-PLAIN.true

pub returns-then-entry-i : goal.returns-then-entry-i
returns-then-entry-i c = past _ _ _ _ c.entry_at-entry.ensures c.if-entry-i.true

pub overflow_add-c : goal.overflow_add-c
overflow_add-c c = omega (arith, in_table_room _ _ _ c.requires.1)

pub returns-in_default : goal.returns-in_default
returns-in_default c = into_over _ _ _ _ c.entry_at-entry.ensures c.if-entry-i.false c.if-entry-eq-ARRAY.true _ c.entry_at-inner.ensures (sym c.in_default.is ∙ c.of_size.ensures)

pub returns-then-entry-eq-ARRAY : goal.returns-then-entry-eq-ARRAY
returns-then-entry-eq-ARRAY c = into _ _ _ _ c.entry_at-entry.ensures c.if-entry-i.false c.if-entry-eq-ARRAY.true _ c.entry_at-inner.ensures _ (sym c.in-Some.is ∙ c.of_size.ensures)

pub field_at-requires : goal.field_at-requires
field_at-requires c = field_asks _ _ _ _ c.entry_at-entry.ensures c.if-entry-i.false c.if-entry-eq-PLAIN.false c.if-entry-eq-ARRAY.false c.requires

pub returns : goal.returns
returns c = to_field _ _ _ _ c.entry_at-entry.ensures c.if-entry-i.false c.if-entry-eq-PLAIN.false c.if-entry-eq-ARRAY.false _ c.field_at.ensures
