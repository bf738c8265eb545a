-- `table_entry::entry_at` meets its contract, number by number.
use Rattle.table_entry.proofs.Entry.{entry_of}
use Rattle.table_entry.proofs.entry_at.Goals as goal

pub returns : goal.returns
returns c =
    entry_of _ c.number_at.ensures c.number_at-2.ensures c.number_at-3.ensures c.number_at-4.ensures c.number_at-5.ensures c.number_at-6.ensures c.number_at-7.ensures c.number_at-8.ensures c.number_at-9.ensures
