-- `write_pieces::put_numbers` meets its contract: each turn puts one number more.
use Rattle.write_pieces.specs.Pieces.{numbers_between}
use Rattle.emit.proofs.Pieces.{Left}
use Rattle.write_pieces.proofs.put_numbers.Given as goal

abbrev pub invariant-loop-n : goal.invariant-loop-n
invariant-loop-n l = Left (numbers_between l.before l.after) l.numbers l.initial.out l.at l.out l.p l.n-index
