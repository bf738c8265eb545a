-- What is found for the keys `shape` and `descr`: from the verdict on a value to the answer for its key, and from the answer to the value that counts.
use Rattle.refusal.specs.Answers.{answer}
use Rattle.std.specs.Prelude.{Err, Ok, Result}
use Prim.Native.Nat.{ℕ}
use mathlib.Core.Path.{◌≡◌, refl, sym, ap, subst, ◌∙◌}
use mathlib.Core.List.{List}
use mathlib.Core.Bool.{Bool, true, false}
use Rattle.counts.specs.Outcome.{Outcome, gives, refused, then, each, unless}
use Rattle.counts.proofs.Apart.{gives_apart, refused_gives, each_none}
use Rattle.counts.proofs.Holds.{each_back, then_back, unless_back}
use Rattle.counts.proofs.OneOutcome.{matched}
use Rattle.literal_grammar.specs.Value.{Value, most_open}
use Rattle.refusal.specs.declared.Refusal.{Refusal}
use Rattle.refusal.specs.Numbers.{number_of}
use Rattle.dtype.specs.Dtype.{Dtype}
use Rattle.dtype.specs.Limits.{over_dimensions}
use Rattle.record.specs.Dict.{key_shape, key_descr}
use Rattle.record.specs.Dimensions.{sub_shape, ranked, shape_of}
use Rattle.record.specs.Descr.{descr_of}
use Rattle.literal_tokens.specs.Node.{Node}
use Rattle.literal_bytes.specs.Got.{Got, got}
use Rattle.literal.specs.Forget.{forget}
use Rattle.literal.specs.Literal.{value}
use Rattle.shape_verdict.specs.Outline.{outline_of}
use Rattle.shape_verdict.specs.declared.Outline.{Outline}
use Rattle.judge_limits.specs.Answer.{rank_limit}
use Rattle.shape_text.specs.Answer.{value_or, dimensions_at, JudgesShape}
use Rattle.shape_text.specs.declared.ShapeJudged.{ShapeJudged}
use Rattle.descr_totals.specs.Totals.{totals_of}
use Rattle.descr_totals.specs.declared.Totals.{Totals}
use Rattle.descr_field.specs.declared.DescrJudged.{DescrJudged}
use Rattle.descr.specs.Judges.{JudgesAt}
use Rattle.judge.specs.declared.Shape.{Shape}
use Rattle.judge.specs.declared.Descr.{Descr}
use Rattle.judge.specs.Pairs.{node_for}
use Rattle.judge.specs.Found.{placed_shape, placed_descr, ranked_at, FoundIs, ShapeFoundIs, DescrFoundIs}
use Rattle.judge.specs.Judged.{inside, Counts, ShapeOf, DescrOf}

-- ---- the answer for a key
module _ {A B : Type 0} (of : Value → Outcome A) (kept : ℕ → A → B) (k : ℕ) (s : List ℕ) where
  -- before any value
  pub found_none : FoundIs of kept k s (refused 9) (refused 9)
  found_none = record { place = 0; there = λ n h. refused_gives h; says = refl }

  -- of the value at a position
  found_here : (at : ℕ) (n : Node) (e : ℕ) (answer : Outcome B) → value k s at ≡ got n e → answer ≡ each (kept at) (of (forget n)) → FoundIs of kept k s answer (gives n)
  found_here at n e answer h hx = record { place = at; there = λ m z. (e, h ∙ ap (λ (x : Node). got x e) (gives_apart z)); says = hx }

each_each : {A B C : Type 0} (f : A → B) (g : B → C) (o : Outcome A) → each g (each f o) ≡ each (λ a. g (f a)) o
each_each f g (gives a) = refl
each_each f g (refused n) = refl

ranked_each : (at : ℕ) (o : Outcome (List ℕ)) → then (each outline_of o) (ranked_at at) ≡ each (λ ds. placed_shape at (outline_of ds)) (then o ranked)
unfolding outline_of
ranked_each at (gives ds) = go (over_dimensions ds)
  where
    go : (b : Bool) → each {A = Unit} (λ u. placed_shape at (outline_of ds)) (unless b 13 (gives tt)) ≡ each (λ ds. placed_shape at (outline_of ds)) (unless b 13 (gives ds))
    go true = refl
    go false = refl
ranked_each at (refused n) = refl

-- 13 where the limit is broken
pub shape_by_lem : (at : ℕ) (v : Result Outline Refusal) (o : Outline) (x y : Result Unit Refusal) → v ≡ Ok o → answer x ≡ rank_limit o → x ≡ y
    → each {A = Unit} (λ u. placed_shape at o) (answer y) ≡ then (answer v) (ranked_at at)
shape_by_lem at v o x y hv hx e = ap (each {A = Unit} (λ u. placed_shape at o)) (matched answer hx e) ∙ ap (λ (z : Result Outline Refusal). then (answer z) (ranked_at at)) (sym hv)

-- by the verdict on the value at the position
module _ (k : ℕ) (s : List ℕ) (at : ℕ) where
  pub shape_here : (j : ShapeJudged) (x : Result Shape Refusal) → JudgesShape (value k s at) j → answer x ≡ then (answer j.verdict) (ranked_at at)
      → (n : Node) (e : ℕ) → value k s at ≡ got n e → ShapeFoundIs k s x (gives n)
  shape_here j x hj hx n e h =
      found_here shape_of (λ at ds. placed_shape at (outline_of ds)) k s at n e (answer x) h
      (hx ∙ ap (λ (y : Outcome Outline). then y (ranked_at at)) (hj.says ∙ ap (λ (g : Got Node). each outline_of (dimensions_at g)) h) ∙ ranked_each at (sub_shape (forget n)))

  pub descr_here : (j : DescrJudged) (x : Result Descr Refusal) → JudgesAt (value k s at) j → answer x ≡ each (placed_descr at) (answer j.verdict)
      → (n : Node) (e : ℕ) → value k s at ≡ got n e → DescrFoundIs k s x (gives n)
  descr_here j x hj hx n e h =
      found_here descr_of (λ at d. placed_descr at (totals_of d)) k s at n e (answer x) h
      (hx ∙ ap (λ (y : Outcome Totals). each (placed_descr at) y) (hj.says ∙ ap (λ (g : Got Node). then (value_or 14 g) (λ v. each totals_of (descr_of v))) h) ∙ each_each totals_of (placed_descr at) (descr_of (forget n)))

-- ---- the value that counts in the dict at a position
module _ (text : List ℕ) (at : ℕ) where
  -- what `of` reads in the value of the key w
  abbrev pub key_at : {A : Type 0} → List ℕ → (Value → Outcome A) → Outcome A
  key_at w of = then (node_for w (value most_open text at)) (λ n. of (forget n))

  module _ {A B : Type 0} (w : List ℕ) (of : Value → Outcome A) (kept : ℕ → A → B) (answer : Outcome B) (f : FoundIs of kept inside text answer (node_for w (value most_open text at))) where
    found_refused : (m : ℕ) → answer ≡ refused m → key_at w of ≡ refused m
    found_refused m h = each_none (kept f.place) (key_at w of) m (sym f.says ∙ h)

    found_is : (b : B) → answer ≡ gives b → (a : A) × (key_at w of ≡ gives a) × (c : Counts text at w f.place) × (of (forget c.node) ≡ gives a) × (kept f.place a ≡ b)
    found_is b h =
        let e = each_back (kept f.place) (key_at w of) b (sym f.says ∙ h) in
        let t = then_back (node_for w (value most_open text at)) (λ n. of (forget n)) e.0 e.1 in
        let p = f.there t.0 t.1 in
        (e.0, e.1, record { node = t.0; end = p.0; found = t.1; there = p.1 }, t.2, e.2)

  -- a shape has few dimensions
  few : (v : Value) (s : List ℕ) → shape_of v ≡ gives s → (sub_shape v ≡ gives s) × (over_dimensions s ≡ false)
  few v s h =
      let t = then_back (sub_shape v) ranked s h in
      let u = unless_back (over_dimensions t.0) 13 (gives t.0) s t.2 in
      (t.1 ∙ u.1, subst (λ (x : List ℕ). over_dimensions x ≡ false) (gives_apart u.1) u.0)

  module _ (x : Result Shape Refusal) (f : ShapeFoundIs inside text x (node_for key_shape (value most_open text at))) where
    pub shape_is : (p : Shape) → x ≡ Ok p → (s : List ℕ) × (key_at key_shape shape_of ≡ gives s) × ShapeOf text at p s
    shape_is p h =
        let r = found_is key_shape shape_of (λ at ds. placed_shape at (outline_of ds)) (answer x) f p (ap answer h) in
        let q = few (forget r.2.node) r.0 r.3 in
        (r.0, r.1, subst (λ (y : Shape). ShapeOf text at y r.0) r.4 (record { counts = r.2; is = q.0; few = q.1; outlined = refl }))

    pub shape_refused : (why : Refusal) → x ≡ Err why → key_at key_shape shape_of ≡ refused (number_of why)
    shape_refused why h = found_refused key_shape shape_of (λ at ds. placed_shape at (outline_of ds)) (answer x) f (number_of why) (ap answer h)

  module _ (x : Result Descr Refusal) (f : DescrFoundIs inside text x (node_for key_descr (value most_open text at))) where
    pub descr_is : (q : Descr) → x ≡ Ok q → (d : Dtype) × (key_at key_descr descr_of ≡ gives d) × DescrOf text at q d
    descr_is q h =
        let r = found_is key_descr descr_of (λ at d. placed_descr at (totals_of d)) (answer x) f q (ap answer h) in
        (r.0, r.1, subst (λ (y : Descr). DescrOf text at y r.0) r.4 (record { counts = r.2; is = r.3; totalled = refl }))

    pub descr_refused : (why : Refusal) → x ≡ Err why → key_at key_descr descr_of ≡ refused (number_of why)
    descr_refused why h = found_refused key_descr descr_of (λ at d. placed_descr at (totals_of d)) (answer x) f (number_of why) (ap answer h)
