-- Document 01, "The refusal numbers": 22, "count or a stride of the declared order over 2^64-1", then 23, "lent table, name, shape or element room too small", which by docs/DECISIONS.md holds
-- for the room of strides too; and "every lent buffer stays unchanged. On success, room beyond what was needed is unchanged." Count and strides are the crate dtype's.
use Rattle.refusal.specs.declared.Refusal.{Refusal}
use Rattle.counts.specs.declared.Items.{Items}
use Rattle.std.specs.Prelude.{ℕ, ◌≡◌, List, ltb, length, Result}
use Rattle.counts.specs.Lists.{at_front}
use Rattle.counts.specs.Outcome.{Outcome, gives, unless, afterwards}
use Rattle.dtype.specs.declared.Order.{Order}
use Rattle.dtype.specs.Shape.{product, strides}
use Rattle.dtype.specs.Limits.{over_shape}
use Rattle.refusal.specs.Answers.{items_answer}

-- the item count, or 22
unfoldable pub item_count : Order → List ℕ → Outcome ℕ
item_count o s = unless (over_shape o s) 22 (gives (product s))

-- the item count where the strides have room, or 22, or 23
unfoldable pub strides_count : Order → List ℕ → (room : ℕ) → Outcome ℕ
strides_count o s room = unless (over_shape o s) 22 (unless (ltb room (length s)) 23 (gives (product s)))

-- the contract of writing the strides: the answer, and what `out` then holds
pub record WritesStrides (o : Order) (s out : List ℕ) (r : Result Items Refusal) (out' : List ℕ) : Type 0 where
  pub answered : items_answer r ≡ strides_count o s (length out)
  pub out_after : out' ≡ afterwards (λ n. at_front (strides o s)) (strides_count o s (length out)) out
