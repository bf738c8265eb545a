-- `string_element::copy` meets its contract: the bytes are written where they have room.
use mathlib.Core.Path.{refl}
use Rattle.counts.proofs.Owes.{owes_short, owes_whole}
use Rattle.string_element.proofs.copy.Goals as goal

pub returns-then-out-value : goal.returns-then-out-value
returns-then-out-value c = owes_short 23 _ _ c.if-out-value.true

pub returns : goal.returns
returns c =
    rw c.store.ensures (owes_whole 23 c.args.out.now c.args.value.now _ c.if-out-value.false refl)
