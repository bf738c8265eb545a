-- `string_value::kept` meets its contract: from `last` on there are only zeros.
use Rattle.string_value.proofs.Trims.{Trimming}
use Rattle.string_value.proofs.kept.Given as goal

abbrev pub invariant-loop-last : goal.invariant-loop-last
invariant-loop-last l = Trimming l.run l.last
