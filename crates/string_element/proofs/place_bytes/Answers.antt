-- `string_element::place_bytes` meets its contract: a filled value is as long as its size.
use mathlib.Core.Path.{sym}
use native.Mathlib.Omega.{arith}
use Rattle.string_value.specs.Runs.{zero_filled}
use Rattle.counts.proofs.Owes.{owes_short, owes_whole}
use Rattle.string_value.proofs.Places.{length_filled}
use Rattle.string_element.proofs.place_bytes.Goals as goal

pub returns-then-out-size : goal.returns-then-out-size
returns-then-out-size c = owes_short 28 _ (zero_filled c.args.size.0 _) (omega (arith, length_filled c.args.size.0 c.args.value.now c.requires))

pub returns : goal.returns
returns c =
    let long = length_filled c.args.size.0 c.args.value.now c.requires in
    rw c.put_filled.ensures (owes_whole 28 c.args.out.now (zero_filled c.args.size.0 c.args.value.now) _ (omega arith) (sym long))
