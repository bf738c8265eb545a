-- `string_element::store` meets its contract: the first i bytes are stored.
use lib.ListN.{length}
use Rattle.string_value.proofs.Places.{Copying}
use Rattle.string_element.proofs.store.Given as goal

abbrev pub invariant-loop-i : goal.invariant-loop-i
invariant-loop-i l = Copying l.value (length l.value) l.initial.out l.out l.i
