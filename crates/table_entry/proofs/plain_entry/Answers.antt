-- Number by number.
use mathlib.Core.Path.{refl, ap}
use Rattle.counts.specs.declared.Bytes.{Bytes}
use Rattle.table_entry.proofs.Entry.{entry_of}
use Rattle.table_entry.proofs.plain_entry.Goals as goal

pub returns : goal.returns
returns c = entry_of _ refl refl c.to_byte.ensures c.to_byte-2.ensures refl c.units_number.ensures refl (ap (λ (b : Bytes). b.0) c.held_bytes.ensures) refl
