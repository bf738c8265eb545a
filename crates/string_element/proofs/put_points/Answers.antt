-- `string_element::put_points` meets its contract: each turn writes one code point more of the value filled up.
use Prim.Native.Nat.{ℕ}
use mathlib.Core.Path.{◌≡◌, refl, sym, ap, ◌∙◌}
use mathlib.Core.List.{◌++◌}
use lib.ListN.{get_or}
use Rattle.std.proofs.Common.{rules}
use Rattle.emit.proofs.Pieces.{left_more, left_end, emits_same}
use Rattle.number_bytes.specs.Numbers.{out_order}
use Rattle.string_value.specs.Runs.{zero_filled, point_bytes}
use Rattle.string_value.proofs.Places.{length_filled, at_filled}
use Rattle.string_element.proofs.put_points.Goals as goal

pub loop-i-preserved : goal.loop-i-preserved
loop-i-preserved c =
    let value : c.unwrap_or-c.result ≡ get_or c.args.value.now c.loop-i.i 0 = search rules in
    left_more (λ p x. out_order c.args.order 4 p ++ x) (point_bytes c.args.order) (λ x. refl) (λ p s x. refl) (zero_filled _ _) _ _ _ _ _ _ _ c.loop-i.invariant
    (rw (length_filled c.args.size.0 c.args.value.now c.requires) c.loop-i-test.true)
    (emits_same _ _ _ _ _ _ (λ x. ap (λ (n : ℕ). out_order c.args.order 4 n ++ x) (value ∙ sym (at_filled c.args.size.0 c.args.value.now _))) c.put-p.ensures)

pub returns : goal.returns
returns c =
    left_end (λ p x. out_order c.args.order 4 p ++ x) (point_bytes c.args.order) (λ x. refl) (λ p s x. refl) (zero_filled _ _) _ _ _ _ _ c.loop-i.invariant
    (rw (length_filled c.args.size.0 c.args.value.now c.requires) c.loop-i-test.false)
