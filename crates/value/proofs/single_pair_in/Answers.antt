-- `value::single_pair_in` meets its contract: the first four bytes are the real part, the others the imaginary part.
use Prim.Native.Nat.{ℕ}
use mathlib.Core.Path.{sym, ap, ◌∙◌}
use mathlib.Core.List.{List}
use native.Mathlib.Omega.{arith}
use lib.Seq.{length-take-le}
use Rattle.counts.specs.Outcome.{gives}
use Rattle.value_float.specs.Floats.{single_of}
use Rattle.number_bytes.specs.Numbers.{in_order}
use Rattle.value.specs.declared.Value.{Value}
use Rattle.value.proofs.Runs.{rest_is}
use Rattle.value.proofs.single_pair_in.Goals as goal

pub slice_bounds-single_in-end : goal.slice_bounds-single_in-end
slice_bounds-single_in-end c = sym (length-take-le 4 c.args.run.now (omega arith))

pub single_in-requires : goal.single_in-requires
single_in-requires c = length-take-le 4 c.args.run.now (omega arith)

pub returns : goal.returns
returns c =
    let a = c.args in
    let first = c.single_in.ensures in
    let second = c.single_in-2.ensures ∙ ap (λ (l : List ℕ). single_of (in_order a.order l)) (rest_is 4 a.run.now) in
    λ i. gives (Value.SinglePair (first i) (second i))
