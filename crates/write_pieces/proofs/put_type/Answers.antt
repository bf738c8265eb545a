-- `write_pieces::put_type` meets its contract: the type between two quotes, as none of its bytes is escaped.
use Rattle.counts.proofs.OneOutcome.{matched}
use Rattle.table_entry.specs.Answer.{type_answer}
use Rattle.write_pieces.proofs.Quoted.{between}
use Rattle.write_pieces.proofs.Types.{type_quoted, no_type_lem}
use Rattle.write_pieces.proofs.put_type.Goals as goal

pub returns-in_default : goal.returns-in_default
returns-in_default c = no_type_lem _ _ _ (matched type_answer c.type_of.ensures c.in_default.is)

pub returns : goal.returns
returns c = type_quoted _ _ _ _ _ _ (matched type_answer c.type_of.ensures c.in-Some.is) (between _ _ _ _ _ _ _ _ _ _ _ c.put-inside.ensures c.put-after_type.ensures c.put.ensures)
