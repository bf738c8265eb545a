-- What is after a field's inner descr, on plain values: the gap says whether there is a sub-shape, how that ends says whether the walk goes on, and the
-- gap after it whether there is more.
use Rattle.refusal.specs.Answers.{answer}
use Prim.Native.Nat.{ℕ, ◌<◌}
use mathlib.Core.Path.{◌≡◌, refl, sym, ap, subst, ◌∙◌}
use mathlib.Core.List.{List, [], ◌∷◌}
use denote.Enum.Declared.{tag_of}
use types.Run.{OneOf, miss}
use Rattle.counts.specs.Outcome.{Outcome, refused, each}
use Rattle.record.specs.Dimensions.{sub_shape}
use Rattle.literal_tokens.specs.Node.{Node}
use Rattle.literal_bytes.specs.Got.{Got, got, fault, deep, pos}
use Rattle.literal_bytes.specs.declared.Parsed.{Parsed}
use Rattle.literal_bytes.specs.declared.Parsed.TheVariants.{Value}
use Rattle.literal.specs.Literal.{value}
use Rattle.literal_bytes.specs.Gaps.{then_at, ended_at}
use Rattle.literal.specs.Forget.{forget}
use Rattle.literal_bytes.specs.declared.Gap.{Gap}
use Rattle.literal_bytes.specs.declared.Gap.TheVariants.{Shut, Item, Stray}
use Rattle.literal_bytes.specs.contracts.Gap.{the_type}
use Rattle.literal_bytes.proofs.Ends.{Stops}
use Rattle.literal.proofs.Steps.{thing}
use Rattle.shape_verdict.specs.declared.Outline.{Outline}
use Rattle.shape_verdict.specs.Outline.{outline_of}
use Rattle.shape_text.specs.declared.ShapeJudged as dims
use Rattle.shape_text.specs.Answer as answers
use Rattle.descr_totals.specs.declared.Totals.{Totals}
use Rattle.descr_totals.specs.Verdict.{both}
use Rattle.descr_field.specs.After.{items_from}
use Rattle.descr_field.proofs.Reach.{from_end, from_stop, from_more}
use Rattle.descr_field.specs.Parts.{levels_over, last_by, shape_by, after_inner_at}

-- a sub-shape, as crate shape_text judges it
sub_judged : (g : Got Node) (n : Node) (q : ℕ) (r : dims.ShapeJudged) → answers.JudgesShape g r → g ≡ got n q → answer r.verdict ≡ each outline_of (sub_shape (forget n))
sub_judged g n q r j h = j.says ∙ ap (λ (x : Got Node). each outline_of (answers.dimensions_at x)) h

last_none : (o : Outcome Totals) (g : Gap) → OneOf (0 ∷ 2 ∷ []) (tag_of the_type g) → o ≡ last_by o g
last_none o (Shut e) m = refl
last_none o (Item p) m = absurd (miss (0 ∷ 2 ∷ []) 1 tt m)
last_none o (Stray p) m = refl

shape_stop : (x y : Outcome Totals) (f : ℕ → Gap) (g : Got Node) → Stops (pos g) → refused 14 ≡ shape_by x y f g
shape_stop x y f (got n q) st = absurd st
shape_stop x y f (fault p) st = refl
shape_stop x y f (deep p) st = refl

-- x is the verdict on the name, y that on the inner descr
module _ (k : ℕ) (s : List ℕ) (close : ℕ) (x y : Outcome Totals) where
  pub says_none : (g : Gap) → OneOf (0 ∷ 2 ∷ []) (tag_of the_type g) → both x y ≡ after_inner_at k s close x y g
  says_none (Shut e) o = refl
  says_none (Item p) o = absurd (miss (0 ∷ 2 ∷ []) 1 tt o)
  says_none (Stray p) o = refl

  module _ (g : Gap) (p : ℕ) (hg : g ≡ Item p) (shape : dims.ShapeJudged) (j : answers.JudgesShape (value k s p) shape) where
    pub says_stop : Stops shape.ended → refused 14 ≡ after_inner_at k s close x y g
    says_stop st =
        shape_stop x y (λ q. then_at s q close) (value k s p) (subst (λ (z : Parsed). Stops z) j.ends st) ∙ sym (ap (after_inner_at k s close x y) hg)

    pub ends_stop : Stops shape.ended → shape.ended ≡ pos (items_from k s close g)
    ends_stop st = from_stop k s close g p shape.ended hg j.ends st

    module _ (small : close < 256) (q : ℕ) (hq : shape.ended ≡ Value q) (next : Gap) (hn : next ≡ then_at s q close) where
      read : (n : Node) × (value k s p ≡ got n q)
      read = thing (value k s p) q (sym hq ∙ j.ends)

      -- with the sub-shape that is there
      shape_there : last_by (both x (levels_over y (answer shape.verdict))) next ≡ after_inner_at k s close x y g
      shape_there =
          let d = sub_judged (value k s p) read.0 q shape j read.1 in
          ap (λ (u : Outcome Outline). last_by (both x (levels_over y u)) next) d ∙ (ap (last_by (both x (levels_over y (each outline_of (sub_shape (forget read.0)))))) hn ∙ (sym (ap (shape_by x y (λ e. then_at s e close)) read.1) ∙ sym (ap (after_inner_at k s close x y) hg)))

      ends_next : pos (items_from k s close next) ≡ pos (items_from k s close g)
      ends_next = sym (from_more k s close small g next p q shape.ended hg hq j.ends hn)

      pub says_shape : OneOf (0 ∷ 2 ∷ []) (tag_of the_type next) → both x (levels_over y (answer shape.verdict)) ≡ after_inner_at k s close x y g
      says_shape o = last_none (both x (levels_over y (answer shape.verdict))) next o ∙ shape_there

      pub ends_shape : OneOf (0 ∷ 2 ∷ []) (tag_of the_type next) → ended_at next ≡ pos (items_from k s close g)
      ends_shape o = from_end k s close next o ∙ ends_next

      pub says_more : (more : ℕ) → next ≡ Item more → refused 14 ≡ after_inner_at k s close x y g
      says_more more hm = sym (ap (last_by (both x (levels_over y (answer shape.verdict)))) hm) ∙ shape_there

      pub ends_more : (more : ℕ) → next ≡ Item more → pos (items_from k s close (Item more)) ≡ pos (items_from k s close g)
      ends_more more hm = ap (λ (z : Gap). pos (items_from k s close z)) (sym hm) ∙ ends_next
