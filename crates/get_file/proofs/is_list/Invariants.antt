-- Each turn is a byte more.
use Rattle.get_file.proofs.Lists.{Checking}
use Rattle.get_file.proofs.is_list.Given as goal

abbrev pub invariant-loop-b : goal.invariant-loop-b
invariant-loop-b l = Checking l.text l.digit l.b-index
