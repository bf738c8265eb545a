-- No second outcome meets the contracts of this crate.
use Rattle.refusal.specs.declared.Refusal.{Refusal}
use Rattle.counts.specs.declared.Items.{Items}
use Rattle.std.specs.Prelude.{Result}
use Prim.Native.Nat.{ℕ}
use mathlib.Core.Path.{◌≡◌}
use mathlib.Core.List.{List}
use lib.ListN.{length}
use Rattle.counts.specs.Outcome.{afterwards}
use Rattle.counts.specs.Lists.{at_front}
use Rattle.counts.specs.OneOutcome.{OneOutcome}
use Rattle.counts.proofs.OneOutcome.{by_equation, beside}
use Rattle.dtype.specs.declared.Order.{Order}
use Rattle.dtype.specs.Shape.{strides}
use Rattle.refusal.specs.Answers.{items_answer}
use Rattle.refusal.proofs.Answers.{items_one}
use Rattle.shape.specs.Count.{item_count, strides_count, WritesStrides}

pub count_one : (o : Order) (s : List ℕ) → OneOutcome (λ r. items_answer r ≡ item_count o s)
count_one o s = items_one (item_count o s)

-- an outcome of `strides` is its answer and what `out` then holds
pub strides_one : (o : Order) (s out : List ℕ) → OneOutcome {A = Result Items Refusal × List ℕ} (λ r. WritesStrides o s out r.0 r.1)
strides_one o s out x y p q =
    beside (items_one (strides_count o s (length out))) (by_equation (afterwards (λ n. at_front (strides o s)) (strides_count o s (length out)) out))
    x y (p.answered, p.out_after) (q.answered, q.out_after)
