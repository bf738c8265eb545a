-- `check_record::entry_over` meets its contract, by the entry's kind.
use Rattle.counts.proofs.Counted.{none_test}
use Rattle.check_record.proofs.Sizes.{plain_size, array_size, is_record, record_size}
use Rattle.counts.specs.Counts.{bytes_over}
use mathlib.Core.Path.{refl, ap, ◌∙◌}
use Rattle.check_record.proofs.entry_over.Goals as goal

pub returns-then-entry-eq-PLAIN : goal.returns-then-entry-eq-PLAIN
returns-then-entry-eq-PLAIN c = let a = c.args in c.plain_over.ensures ∙ plain_size a.table.now a.n a.e _ c.entry_at-entry.ensures c.if-entry-eq-PLAIN.true

pub returns-then-entry-eq-ARRAY : goal.returns-then-entry-eq-ARRAY
returns-then-entry-eq-ARRAY c = let a = c.args in none_test bytes_over refl (λ a. refl) _ _ c.is_none.ensures ∙ ap bytes_over c.of_size.ensures ∙ array_size a.table.now a.n a.e _ c.entry_at-entry.ensures c.if-entry-eq-ARRAY.true _ c.entry_at-inner.ensures

pub fields_over-requires : goal.fields_over-requires
fields_over-requires c = let a = c.args in (c.requires.0, (is_record a.table.now a.n a.e _ c.entry_at-entry.ensures c.if-entry-eq-PLAIN.false c.if-entry-eq-ARRAY.false c.requires.1).1)

pub returns : goal.returns
returns c = let a = c.args in c.fields_over.ensures ∙ record_size a.table.now a.n a.e _ c.entry_at-entry.ensures c.if-entry-eq-PLAIN.false c.if-entry-eq-ARRAY.false c.requires.1
