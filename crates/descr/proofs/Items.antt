-- The items of a field on plain values, item by item, whichever row is there: the gap before each says whether it is there, how it ends says whether
-- the walk goes on, and what is judged of it is what the definition asks.
use Rattle.refusal.specs.Answers.{answer}
use Prim.Native.Nat.{ℕ, ◌<◌}
use mathlib.Core.Path.{◌≡◌, refl, sym, ap, subst, ◌∙◌}
use mathlib.Core.List.{List, [], ◌∷◌}
use denote.Enum.Declared.{tag_of}
use types.Run.{OneOf}
use Rattle.counts.specs.Outcome.{Outcome, refused, each}
use Rattle.literal_tokens.specs.Node.{Node}
use Rattle.literal_bytes.specs.Got.{got, pos}
use Rattle.literal.specs.Literal.{value}
use Rattle.literal_bytes.specs.Gaps.{gap_at, then_at, ended_at}
use Rattle.literal.specs.Rows.{RowOf}
use Rattle.literal.specs.Forget.{forget, forget_all}
use Rattle.literal_bytes.specs.declared.Parsed.TheVariants.{Value}
use Rattle.literal_bytes.specs.declared.Gap.{Gap}
use Rattle.literal_bytes.specs.declared.Gap.TheVariants.{Shut, Item, Stray}
use Rattle.literal_bytes.specs.contracts.Gap.{the_type}
use Rattle.literal_bytes.proofs.Ends.{Stops}
use Rattle.literal.proofs.Rows.{row_shut, row_stray}
use Rattle.record.specs.Dimensions.{sub_shape}
use Rattle.shape_verdict.specs.Outline.{outline_of}
use Rattle.descr_totals.specs.declared.Totals.{Totals}
use Rattle.descr_totals.specs.Verdict.{both}
use Rattle.descr_field.specs.After.{items_from, second_at}
use Rattle.descr_field.specs.Parts.{name_verdict, levels_over, last_by, shape_by, after_inner_at}
use Rattle.descr_field.specs.declared.DescrJudged.{DescrJudged}
use Rattle.descr.specs.Judges.{JudgesDescr}
use Rattle.descr.proofs.Adds.{descr_by, after_inner_by, field_of_items}
use Rattle.descr_field.proofs.Reach.{inside, from_end, from_stop, from_more, inside_end, inside_stop, inside_more, row_over, row_next, row_after, row_stops, second_over, second_item}
use Rattle.descr.proofs.Along.{JudgesInside, values_of, items_none, items_one, items_after}
use Rattle.descr.proofs.Nodes.{name_says}

-- ---- after the inner descr: x is the verdict on the name, y that on the descr
module _ (k : ℕ) (s : List ℕ) (close : ℕ) (x y : Outcome Totals) where
  last_row : (n : Node) (us : List Node) (g : Gap) (e : ℕ) → RowOf (value k s) s close us g e
      → last_by (both x (levels_over y (each outline_of (sub_shape (forget n))))) g ≡ after_inner_by x y (values_of (n ∷ us))
  unfolding forget_all
  last_row n us (Shut p) e h = sym (ap (λ (l : List Node). after_inner_by x y (values_of (n ∷ l))) (row_shut (value k s) s close us p e h).0)
  last_row n us (Stray p) e h = absurd (row_stray (value k s) s close us p e h)
  last_row n us (Item p) e h = sym (ap (λ (l : List Node). after_inner_by x y (values_of (n ∷ l))) (row_next k s close us (Item p) p e refl h).3)

  -- whichever row is there
  after_row : (ns : List Node) (g : Gap) (e : ℕ) → RowOf (value k s) s close ns g e → after_inner_at k s close x y g ≡ after_inner_by x y (values_of ns)
  unfolding forget_all
  after_row ns (Shut p) e h = sym (ap (λ (l : List Node). after_inner_by x y (values_of l)) (row_shut (value k s) s close ns p e h).0)
  after_row ns (Stray p) e h = absurd (row_stray (value k s) s close ns p e h)
  after_row ns (Item p) e h =
      let w = row_next k s close ns (Item p) p e refl h in
      ap (shape_by x y (λ q. then_at s q close)) w.4 ∙ (last_row w.0 w.1 (then_at s w.2 close) e w.5 ∙ sym (ap (λ (l : List Node). after_inner_by x y (values_of l)) w.3))

-- ---- all the items
module _ (k : ℕ) (s : List ℕ) (from close : ℕ) (g1 : Gap) (h1 : g1 ≡ gap_at s from close) where
  row_first : (ns : List Node) (e : ℕ) → RowOf (value k s) s close ns (gap_at s from close) e → RowOf (value k s) s close ns g1 e
  row_first ns e h = subst (λ (x : Gap). RowOf (value k s) s close ns x e) (sym h1) h

  pub items_empty : (r : DescrJudged) → OneOf (0 ∷ 2 ∷ []) (tag_of the_type g1) → r.ended ≡ ended_at g1 → answer r.verdict ≡ refused 14 → JudgesInside k s from close r
  items_empty r o he hv =
      record {
        ends = he ∙ inside_end k s from close g1 h1 o;
        of_row = λ ns e h. hv ∙ (items_none ∙ sym (ap (λ (l : List Node). field_of_items (values_of l)) (row_over k s close ns g1 e o (row_first ns e h))));
      }

  module _ (p1 : ℕ) (i1 : g1 ≡ Item p1) (name : DescrJudged) (hn : (name.ended ≡ pos (value k s p1)) × (answer name.verdict ≡ name_verdict s p1)) where
    pub items_unread : (r : DescrJudged) → Stops name.ended → r.ended ≡ name.ended → JudgesInside k s from close r
    items_unread r st he =
        record {
          ends = he ∙ inside_stop k s from close g1 h1 p1 i1 name.ended hn.0 st;
          of_row = λ ns e h. row_stops k s close ns g1 p1 e name.ended i1 hn.0 st (row_first ns e h);
        }

    module _ (small : close < 256) (q1 : ℕ) (e1 : name.ended ≡ Value q1) (g2 : Gap) (h2 : g2 ≡ second_at s q1 close) where
      -- all end as those after the name do
      second_ends : pos (inside k s from close) ≡ pos (items_from k s close g2)
      second_ends = inside_more k s from close g1 h1 p1 i1 name.ended hn.0 small q1 e1 g2 h2

      -- the name, and the row after it
      first : (ns : List Node) (e : ℕ) → RowOf (value k s) s close ns (gap_at s from close) e
          → (n : Node) × (us : List Node) × (ns ≡ n ∷ us) × (value k s p1 ≡ got n q1) × RowOf (value k s) s close us (then_at s q1 close) e
      first ns e h = row_after k s close ns g1 p1 q1 e name.ended i1 e1 hn.0 (row_first ns e h)

      pub items_alone : (r : DescrJudged) → OneOf (0 ∷ 2 ∷ []) (tag_of the_type g2) → r.ended ≡ ended_at g2 → answer r.verdict ≡ refused 14 → JudgesInside k s from close r
      items_alone r o he hv =
          record {
            ends = he ∙ (from_end k s close g2 o ∙ sym second_ends);
            of_row = λ ns e h.
                let w = first ns e h in
                let z = second_over k s close q1 g2 h2 w.1 e o w.4 in
                hv ∙ (items_one w.0 ∙ sym (ap (λ (l : List Node). field_of_items (values_of l)) (w.2 ∙ ap (λ (l : List Node). w.0 ∷ l) z)));
          }

      module _ (p2 : ℕ) (i2 : g2 ≡ Item p2) (inner : DescrJudged) (hj : JudgesDescr k s p2 descr_by inner) where
        -- the row from the inner descr on
        second : (us : List Node) (e : ℕ) → RowOf (value k s) s close us (then_at s q1 close) e → RowOf (value k s) s close us g2 e
        second us e h = subst (λ (x : Gap). RowOf (value k s) s close us x e) (second_item k s close q1 g2 h2 p2 i2 ∙ sym i2) h

        pub items_broken : (r : DescrJudged) → Stops inner.ended → r.ended ≡ inner.ended → JudgesInside k s from close r
        items_broken r st he =
            record {
              ends = he ∙ (from_stop k s close g2 p2 inner.ended i2 hj.ends st ∙ sym second_ends);
              of_row = λ ns e h. let w = first ns e h in row_stops k s close w.1 g2 p2 e inner.ended i2 hj.ends st (second w.1 e w.4);
            }

        pub items_whole : (q2 : ℕ) → inner.ended ≡ Value q2 → (g3 : Gap) → g3 ≡ then_at s q2 close → (r : DescrJudged)
            → (r.ended ≡ pos (items_from k s close g3)) × (answer r.verdict ≡ after_inner_at k s close (answer name.verdict) (answer inner.verdict) g3)
            → JudgesInside k s from close r
        items_whole q2 e2 g3 h3 r b =
            record {
              ends = b.0 ∙ sym (second_ends ∙ from_more k s close small g2 g3 p2 q2 inner.ended i2 e2 hj.ends h3);
              of_row = λ ns e h.
                  let w = first ns e h in
                  let v = row_after k s close w.1 g2 p2 q2 e inner.ended i2 e2 hj.ends (second w.1 e w.4) in
                  let o = b.1 ∙ after_row k s close (answer name.verdict) (answer inner.verdict) v.1 g3 e (subst (λ (x : Gap). RowOf (value k s) s close v.1 x e) (sym h3) v.4) in
                  o ∙ (items_after w.0 v.0 v.1 (answer name.verdict) (answer inner.verdict) (hn.1 ∙ name_says s p1 k w.0 q1 w.3) (hj.of_value v.0 q2 v.3) ∙ sym (ap (λ (l : List Node). field_of_items (values_of l)) (w.2 ∙ ap (λ (l : List Node). w.0 ∷ l) v.2)));
            }
