-- The answers of `item_number`: where the shape has no more than 32 dimensions the strides have room, and their sum of products with an index in range is the item's
-- number, which is below the item count and so fits. Of a shape within its limits the item's number is refused exactly where its index is not in range.
use Rattle.std.specs.Prelude.{Err, None, Ok, Some, Result}
use Prim.Native.Nat.{ℕ, ◌^◌, ◌<◌, ◌≤◌}
use mathlib.Core.Path.{◌≡◌, refl, ap, sym, ◌∙◌}
use mathlib.Core.Bool.{Bool, true, false, not}
use mathlib.Core.List.{List}
use native.Mathlib.Omega.{arith}
use borrow.Author.Tests.{lt-ltb, le-ltb, leb-false}
use lib.ListN.{length, drop}
use Rattle.counts.specs.Outcome.{gives, refused, unless, afterwards}
use Rattle.counts.specs.Lists.{at_front}
use Rattle.counts.specs.Number.{number}
use Rattle.counts.specs.Counts.{items}
use Rattle.counts.specs.declared.Items.{Items}
use Rattle.counts.proofs.OneOutcome.{matched}
use Rattle.refusal.specs.declared.Refusal.{Refusal}
use Rattle.refusal.specs.Numbers.{number_of}
use Rattle.refusal.specs.Answers.{items_answer}
use Rattle.dtype.specs.declared.Order.{Order}
use Rattle.dtype.specs.Shape.{product, strides, in_range, sum_of_products, item}
use Rattle.dtype.specs.Limits.{over, any_over, over_shape}
use Rattle.dtype.proofs.Strides.{strides_length, range_length}
use Rattle.dtype.proofs.Items.{item_below}
use Rattle.dtype.proofs.Seen.{or_left}
use Rattle.shape.specs.Count.{item_count, strides_count, WritesStrides}
use Rattle.shape.proofs.Turns.{counted_fits, counted_refused}
use Rattle.place_item.specs.Item.{item_of}
use Rattle.counts.proofs.Counted.{items_back, items_over_lem}
use Rattle.place_item.proofs.Sums.{range_of, sum_front}

-- where the shape is not over, all its items have a number that fits
product_fits : (o : Order) (s : List ℕ) → over_shape o s ≡ false → product s < 2 ^ 64
unfolding over_shape
product_fits o s f = leb-false (2 ^ 64) (product s) (or_left (over (product s)) (any_over (strides o s)) f)

-- ---- the answers
pub number_13 : (o : Order) (s x : List ℕ) → 32 < length s → refused 13 ≡ item_of o s x
unfolding item_of
number_13 o s x l = simp (lt-ltb 32 (length s) l)

module _ (o : Order) (s x out : List ℕ) (w : Result Items Refusal) (out' : List ℕ) (h : WritesStrides o s out w out') (room : 32 ≤ length out) (l : length s ≤ 32) where
  counted : items_answer w ≡ item_count o s
  unfolding strides_count item_count
  counted = h.answered ∙ simp (le-ltb (length out) (length s) (omega arith))

  pub number_22 : (why : Refusal) → w ≡ Err why → items_answer w ≡ item_of o s x
  unfolding item_of
  number_22 why e =
      let v = counted_refused o s (number_of why) (matched items_answer counted e) in
      ap items_answer e ∙ ap refused v.1 ∙ simp (le-ltb 32 (length s) l, v.0)

  module _ (n : Items) (e : w ≡ Ok n) where
    not_over : over_shape o s ≡ false
    not_over = (counted_fits o s n.0 (matched items_answer counted e)).0

    pub number_26 : in_range s x ≡ false → refused 26 ≡ item_of o s x
    unfolding item_of
    number_26 g = simp (le-ltb 32 (length s) l, not_over, g)

    strides_fit : strides_count o s (length out) ≡ gives (product s)
    unfolding strides_count
    strides_fit = simp (not_over, le-ltb (length out) (length s) (omega arith))

    module _ (g : in_range s x ≡ true) where
      sum_is : sum_of_products x out' ≡ item o s x
      sum_is =
          let a : out' ≡ at_front (strides o s) out = h.out_after ∙ ap (λ y. afterwards (λ n. at_front (strides o s)) y out) strides_fit in
          let b : length x ≡ length (strides o s) = range_length s x (range_of s x g) ∙ sym (strides_length o s) in
          ap (λ (y : List ℕ). sum_of_products x y) a ∙ sum_front x (strides o s) (drop (length (strides o s)) out) b

      -- the sum does not exceed 2^64-1
      pub number_over : None ≡ items (number (sum_of_products x out')) → refused 26 ≡ item_of o s x
      number_over p =
          absurd (omega (arith, items_over_lem (sum_of_products x out') p, sum_is, item_below o s x (range_of s x g), product_fits o s not_over))

      pub number_gives : (m : Items) → Some m ≡ items (number (sum_of_products x out')) → gives m.0 ≡ item_of o s x
      unfolding item_of
      number_gives m p =
          let z : item o s x ≡ m.0 = sym sum_is ∙ (items_back (sum_of_products x out') m p).0 in
          simp (le-ltb 32 (length s) l, not_over, g, z)

-- past 13 and 22 an item has a number exactly where its index is in range
pub item_within : (o : Order) (s x : List ℕ) → length s ≤ 32 → over_shape o s ≡ false → item_of o s x ≡ unless (not (in_range s x)) 26 (gives (item o s x))
unfolding item_of
item_within o s x l f = simp (le-ltb 32 (length s) l, f)

pub item_given : (o : Order) (s x : List ℕ) → length s ≤ 32 → over_shape o s ≡ false → (m : ℕ) → gives m ≡ item_of o s x → (in_range s x ≡ true) × (item o s x ≡ m)
item_given o s x l f m e = go (in_range s x) refl (e ∙ item_within o s x l f)
  where
    go : (b : Bool) → in_range s x ≡ b → gives m ≡ unless (not b) 26 (gives (item o s x)) → (in_range s x ≡ true) × (item o s x ≡ m)
    go true g h = (g, cc)
    go false g h = let z : ◌≡◌ {A = ℕ} 0 1 = cc in absurd (omega arith)
