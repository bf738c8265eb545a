-- Walks over the items of a bracket, one item after the other. `Turn` is what the loop over fields keeps: all end as those that are left do, and the verdict
-- on the fields so far and those that are left give the verdict on all. Every law speaks of whichever row is there, so that no reading is inverted.
use Rattle.refusal.specs.Answers.{answer}
use Rattle.refusal.specs.declared.Refusal.{Refusal}
use Rattle.std.specs.Prelude.{Result}
use Prim.Native.Nat.{ℕ}
use mathlib.Core.Path.{◌≡◌, refl, sym, ap, subst, ◌∙◌}
use mathlib.Core.List.{List, [], ◌∷◌}
use lib.Dec.{lit<}
use denote.Enum.Declared.{tag_of}
use types.Run.{OneOf}
use Rattle.counts.specs.Outcome.{Outcome, gives, refused, each}
use Rattle.literal_grammar.specs.Value.{Values, end_of_values, value_then}
use Rattle.literal_tokens.specs.Node.{Node, nodes}
use Rattle.literal_bytes.specs.Got.{pos}
use Rattle.literal.specs.Literal.{value}
use Rattle.literal_bytes.specs.Gaps.{gap_at, then_at, ended_at}
use Rattle.literal.specs.Rows.{RowOf}
use Rattle.literal.specs.Forget.{forget, forget_all}
use Rattle.literal_bytes.specs.declared.Gap.{Gap}
use Rattle.literal_bytes.specs.declared.Gap.TheVariants.{Item}
use Rattle.literal_bytes.specs.contracts.Gap.{the_type}
use Rattle.literal_bytes.specs.declared.Parsed.TheVariants.{Value}
use Rattle.literal_bytes.proofs.Ends.{Stops}
use Rattle.descr_totals.specs.declared.Totals.{Totals}
use Rattle.descr_field.specs.declared.DescrJudged.{DescrJudged}
use Rattle.record.specs.Dimensions.{sub_shape}
use Rattle.shape_verdict.specs.Outline.{outline_of}
use Rattle.shape_verdict.specs.declared.Outline.{Outline}
use Rattle.descr_totals.specs.Verdict.{both}
use Rattle.descr_field.specs.After.{items_from}
use Rattle.descr_field.specs.Parts.{levels_over}
use Rattle.descr.specs.Judges.{JudgesDescr, JudgesFrom}
use Rattle.descr_totals.proofs.Sums.{both_assoc, both_nothing, nothing}
use Rattle.descr.proofs.Adds.{fields_by, field_by, name_by, descr_by, after_inner_by, field_of_items, fields_step, fields_start, two_items, three_items}
use Rattle.descr_field.proofs.Reach.{inside, from_end, from_stop, from_more, row_over, row_after, row_stops}

abbrev pub values_of : List Node → Values
values_of ns = forget_all (nodes ns)

pub values_none : values_of [] ≡ end_of_values
unfolding forget_all
values_none = refl

pub values_more : (n : Node) (ns : List Node) → values_of (n ∷ ns) ≡ value_then (forget n) (values_of ns)
unfolding forget_all forget
values_more n ns = refl

-- ---- the loop over fields
module _ (k : ℕ) (s : List ℕ) (from : ℕ) where
  pub record Turn (g : Gap) (so_far : Result Totals Refusal) : Type 0 where
    pub reach : pos (items_from k s 93 (gap_at s from 93)) ≡ pos (items_from k s 93 g)
    pub goes : (ns : List Node) (e : ℕ) → RowOf (value k s) s 93 ns (gap_at s from 93) e
        → (us : List Node) × RowOf (value k s) s 93 us g e × (fields_by (values_of ns) ≡ both (answer so_far) (fields_by (values_of us)))
    pub tidy : both (answer so_far) (gives nothing) ≡ answer so_far

  pub turn_start : (g : Gap) (v : Result Totals Refusal) → g ≡ gap_at s from 93 → answer v ≡ gives nothing → Turn g v
  turn_start g v hg hv =
      record {
        reach = ap (λ (x : Gap). pos (items_from k s 93 x)) (sym hg);
        goes = λ ns e h. (ns, subst (λ (x : Gap). RowOf (value k s) s 93 ns x e) (sym hg) h, sym (ap (λ (x : Outcome Totals). both x (fields_by (values_of ns))) hv ∙ fields_start (values_of ns)));
        tidy = ap (λ (x : Outcome Totals). both x (gives nothing)) hv ∙ (fields_start end_of_values ∙ sym hv);
      }

  module _ (g : Gap) (v : Result Totals Refusal) (p : ℕ) (t : Turn g v) (hg : g ≡ Item p) (j : DescrJudged) (hj : JudgesDescr k s p field_by j) where
    pub turn_stop : (r : DescrJudged) → Stops j.ended → r.ended ≡ j.ended → JudgesFrom k s 93 (gap_at s from 93) fields_by r
    turn_stop r st he =
        record {
          ends = he ∙ (from_stop k s 93 g p j.ended hg hj.ends st ∙ sym t.reach);
          of_row = λ ns e h. let o = t.goes ns e h in row_stops k s 93 o.0 g p e j.ended hg hj.ends st o.1;
        }

    pub turn_more : (g' : Gap) (v' : Result Totals Refusal) (q : ℕ) → j.ended ≡ Value q → g' ≡ then_at s q 93 → answer v' ≡ both (answer v) (answer j.verdict) → Turn g' v'
    turn_more g' v' q hq hg' hv =
        record {
          reach = t.reach ∙ from_more k s 93 (lit< tt) g g' p q j.ended hg hq hj.ends hg';
          goes = λ ns e h.
              let o = t.goes ns e h in
              let x = row_after k s 93 o.0 g p q e j.ended hg hq hj.ends o.1 in
              let y = hj.of_value x.0 q x.3 in
              let one : fields_by (values_of o.0) ≡ both (answer j.verdict) (fields_by (values_of x.1)) =
              ap (λ (z : List Node). fields_by (values_of z)) x.2 ∙ (ap fields_by (values_more x.0 x.1) ∙ (fields_step (forget x.0) (values_of x.1) ∙ ap (λ (z : Outcome Totals). both z (fields_by (values_of x.1))) (sym y))) in (
                x.1,
                subst (λ (z : Gap). RowOf (value k s) s 93 x.1 z e) (sym hg') x.4,
                o.2 ∙ (ap (λ (z : Outcome Totals). both (answer v) z) one ∙ (sym (both_assoc (answer v) (answer j.verdict) (fields_by (values_of x.1))) ∙ ap (λ (z : Outcome Totals). both z (fields_by (values_of x.1))) (sym hv))),
              );
          tidy = ap (λ (z : Outcome Totals). both z (gives nothing)) hv ∙ (both_nothing (answer v) (answer j.verdict) ∙ sym hv);
        }

  pub turn_end : (g : Gap) (v : Result Totals Refusal) (r : DescrJudged) → Turn g v → OneOf (0 ∷ 2 ∷ []) (tag_of the_type g) → r.ended ≡ ended_at g → r.verdict ≡ v → JudgesFrom k s 93 (gap_at s from 93) fields_by r
  turn_end g v r t o he hv =
      record {
        ends = he ∙ (from_end k s 93 g o ∙ sym t.reach);
        of_row = λ ns e h.
            let w = t.goes ns e h in
            let z = row_over k s 93 w.0 g e o w.1 in
            let none : fields_by (values_of w.0) ≡ gives nothing = ap (λ (x : List Node). fields_by (values_of x)) z ∙ ap fields_by values_none in
            ap answer hv ∙ sym (w.2 ∙ (ap (λ (x : Outcome Totals). both (answer v) x) none ∙ t.tidy));
      }

-- ---- a field's items, as they were judged
-- the statement on those that begin at `from`, after the opening bracket
pub record JudgesInside (k : ℕ) (s : List ℕ) (from close : ℕ) (r : DescrJudged) : Type 0 where
  pub ends : r.ended ≡ pos (inside k s from close)
  pub of_row : (ns : List Node) (e : ℕ) → RowOf (value k s) s close ns (gap_at s from close) e → answer r.verdict ≡ field_of_items (values_of ns)

pub items_none : refused 14 ≡ field_of_items (values_of [])
unfolding forget_all
items_none = refl

pub items_one : (a : Node) → refused 14 ≡ field_of_items (values_of (a ∷ []))
unfolding forget_all
items_one a = refl

pub items_many : (a b c d : Node) (ns : List Node) → refused 14 ≡ field_of_items (values_of (a ∷ b ∷ c ∷ d ∷ ns))
unfolding forget_all
items_many a b c d ns = refl

pub items_two : (a b : Node) (x y : Outcome Totals) → x ≡ name_by (forget a) → y ≡ descr_by (forget b) → both x y ≡ field_of_items (values_of (a ∷ b ∷ []))
unfolding forget_all
items_two a b x y hx hy = ap (λ (z : Outcome Totals). both z y) hx ∙ (ap (λ (z : Outcome Totals). both (name_by (forget a)) z) hy ∙ two_items (forget a) (forget b))

pub items_three : (a b c : Node) (x y w : Outcome Totals) (z : Outcome Outline) → x ≡ name_by (forget a) → y ≡ descr_by (forget b) → z ≡ each outline_of (sub_shape (forget c)) → w ≡ levels_over y z
    → both x w ≡ field_of_items (values_of (a ∷ b ∷ c ∷ []))
unfolding forget_all
items_three a b c x y w z hx hy hz hw =
    let e : w ≡ levels_over (descr_by (forget b)) (each outline_of (sub_shape (forget c))) = hw ∙ (ap (λ (u : Outcome Totals). levels_over u z) hy ∙ ap (λ (u : Outcome Outline). levels_over (descr_by (forget b)) u) hz) in
    ap (λ (u : Outcome Totals). both u w) hx ∙ (ap (λ (u : Outcome Totals). both (name_by (forget a)) u) e ∙ three_items (forget a) (forget b) (forget c))

-- what is after a field's name and inner descr
pub items_after : (a b : Node) (ns : List Node) (x y : Outcome Totals) → x ≡ name_by (forget a) → y ≡ descr_by (forget b) → after_inner_by x y (values_of ns) ≡ field_of_items (values_of (a ∷ b ∷ ns))
unfolding forget_all
items_after a b [] x y hx hy = items_two a b x y hx hy
items_after a b (c ∷ []) x y hx hy = items_three a b c x y (levels_over y (each outline_of (sub_shape (forget c)))) (each outline_of (sub_shape (forget c))) hx hy refl refl
items_after a b (c ∷ d ∷ ns) x y hx hy = items_many a b c d ns
