-- `check_table::plain_agrees` meets its contract: the type, the extent and the bytes.
use Rattle.check_table.proofs.Plain.{plain_decided}
use Rattle.table_entry.specs.Answer.{type_answer}
use mathlib.Core.Path.{ap}
use Rattle.counts.specs.declared.Bytes.{Bytes}
use Rattle.counts.proofs.OneOutcome.{matched}
use Rattle.check_table.proofs.plain_agrees.Goals as goal

pub returns-then-entry-eq1 : goal.returns-then-entry-eq1
returns-then-entry-eq1 c = plain_decided _ _ _ (matched type_answer c.type_of.ensures c.in-Some.is) c.if-entry-eq1.true (ap (λ (b : Bytes). b.0) c.held_bytes.ensures)
