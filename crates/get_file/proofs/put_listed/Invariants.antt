-- Each turn is a byte more.
use Rattle.get_file.proofs.Lists.{Listing}
use Rattle.get_file.proofs.put_listed.Given as goal

abbrev pub invariant-loop-b : goal.invariant-loop-b
invariant-loop-b l = Listing l.text l.initial.out l.out l.count l.n l.b-index
