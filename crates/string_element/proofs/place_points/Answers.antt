-- `string_element::place_points` meets its contract: a filled value is four bytes long for each code point of its size, and more than 2^64-1 bytes have no room.
use mathlib.Core.Path.{refl, sym, ◌∙◌}
use native.Mathlib.Omega.{arith}
use Rattle.counts.proofs.Owes.{owes_short}
use Rattle.emit.proofs.Texts.{owes_emitted}
use Rattle.string_value.proofs.Places.{length_filled_points}
use Rattle.string_value.proofs.Ways.{bytes_over_lem, bytes_is}
use Rattle.string_element.proofs.place_points.Goals as goal

pub returns-in_default : goal.returns-in_default
returns-in_default c = owes_short 28 _ _ (omega (arith, length_filled_points c.args.order c.args.size.0 c.args.value.now c.requires, bytes_over_lem _ (sym c.in_bytes.ensures ∙ c.in_default.is)))

pub returns-then-out-bytes : goal.returns-then-out-bytes
returns-then-out-bytes c = owes_short 28 _ _ (omega (arith, length_filled_points c.args.order c.args.size.0 c.args.value.now c.requires, bytes_is _ _ (sym c.in_bytes.ensures ∙ c.in-Some.is)))

pub returns : goal.returns
returns c = let long = length_filled_points c.args.order c.args.size.0 c.args.value.now c.requires in
    let fits = bytes_is _ _ (sym c.in_bytes.ensures ∙ c.in-Some.is) in
    owes_emitted 28 _ _ _ _ _ _ refl c.put_points.ensures (omega arith) (sym (long ∙ fits))
