-- `write_pieces::put_escaped` meets its contract: each turn writes one byte more of the name.
use Rattle.literal_grammar.specs.Print.{escapes}
use Rattle.emit.proofs.Pieces.{Left}
use Rattle.write_pieces.proofs.put_escaped.Given as goal

abbrev pub invariant-loop-b : goal.invariant-loop-b
invariant-loop-b l = Left escapes l.name l.initial.out l.at l.out l.p l.b-index
