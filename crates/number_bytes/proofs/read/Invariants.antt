-- `number_bytes::read` meets its contract: n is the number in the bytes from k on, the least significant first.
use Rattle.number_bytes.specs.Numbers.{least_first}
use Rattle.number_bytes.proofs.Runs.{Reading}
use Rattle.number_bytes.proofs.read.Given as goal

abbrev pub invariant-loop-k : goal.invariant-loop-k
invariant-loop-k l = Reading (least_first l.order l.run) l.k l.n
