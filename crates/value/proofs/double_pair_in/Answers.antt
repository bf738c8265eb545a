-- `value::double_pair_in` meets its contract: the first eight bytes are the real part, the others the imaginary part.
use Prim.Native.Nat.{ℕ}
use mathlib.Core.Path.{sym, ap, ◌∙◌}
use mathlib.Core.List.{List}
use native.Mathlib.Omega.{arith}
use lib.Seq.{length-take-le}
use Rattle.counts.specs.Outcome.{gives}
use Rattle.value_float.specs.Floats.{double_of}
use Rattle.number_bytes.specs.Numbers.{in_order}
use Rattle.value.specs.declared.Value.{Value}
use Rattle.value.proofs.Runs.{rest_is}
use Rattle.value.proofs.double_pair_in.Goals as goal

pub slice_bounds-double_in-end : goal.slice_bounds-double_in-end
slice_bounds-double_in-end c = sym (length-take-le 8 c.args.run.now (omega arith))

pub double_in-requires : goal.double_in-requires
double_in-requires c = length-take-le 8 c.args.run.now (omega arith)

pub returns : goal.returns
returns c =
    let a = c.args in
    let first = c.double_in.ensures in
    let second = c.double_in-2.ensures ∙ ap (λ (l : List ℕ). double_of (in_order a.order l)) (rest_is 8 a.run.now) in
    λ i. gives (Value.DoublePair (first i) (second i))
