-- `string_element::put_filled` meets its contract: the value is copied, and each turn writes one zero more.
use Prim.Native.Nat.{ℕ}
use mathlib.Core.Path.{◌≡◌, refl, sym, ap, ◌∙◌}
use mathlib.Core.List.{List, [], ◌++◌}
use native.Mathlib.Omega.{arith}
use lib.ListN.{length, take, drop, get_or-eq_default, set}
use Rattle.std.proofs.lemmas.List.{take_at, take_all}
use Rattle.std.proofs.Common.{rules}
use Rattle.string_value.specs.Runs.{zero_filled}
use Rattle.string_value.proofs.Places.{length_filled, at_filled, copying_more, copying_end}
use Rattle.string_element.proofs.put_filled.Goals as goal

front : (size : ℕ) (value : List ℕ) → take (length value) (zero_filled size value) ≡ value
unfolding zero_filled
front size value = take_at value _ _ refl

pub loop-init : goal.loop-init
loop-init c =
    let value = c.args.value.now in
    let holds = c.store.ensures ∙ ap (λ (l : List ℕ). l ++ drop (length value) c.args.out.now) (sym (front c.args.size.0 value)) in
    (record { inside = c.requires.0; same = search rules; holds = holds }, omega arith, refl)

pub loop-preserved : goal.loop-preserved
loop-preserved c =
    let long = length_filled c.args.size.0 c.args.value.now c.requires.0 in
    let zero = at_filled c.args.size.0 c.args.value.now c.loop.counter ∙ get_or-eq_default c.args.value.now 0 c.loop.invariant.1 in
    let stored = c.put-p.ensures.stored [] ∙ ap (λ (i : ℕ). set c.loop.out i 0) c.loop.invariant.2 in
    let more = copying_more _ _ _ _ _ 0 c.loop.invariant.0 c.loop-test.true (omega (arith, long)) c.requires.1 (sym zero) in
    (rw stored more, omega (arith, c.loop.invariant.1), omega (arith, c.put-p.ensures.after [], c.loop.invariant.2))

pub returns : goal.returns
returns c =
    let filled = zero_filled c.args.size.0 c.args.value.now in
    let long = length_filled c.args.size.0 c.args.value.now c.requires.0 in
    copying_end _ _ _ _ _ c.loop.invariant.0 c.loop-test.false ∙ rw (long, take_all c.args.size.0 filled (omega (arith, long))) refl
