-- Judging members while they are read. What is kept: the list ends as its items from the gap on do, and its outline is the verdict on the members met,
-- extended by those from the gap on. A law for each way out of the loop, of a tuple, and of the value around them.
use Rattle.refusal.specs.Answers.{answer}
use Rattle.std.specs.Prelude.{Err, Ok, Result}
use Prim.Native.Nat.{ℕ, zero, suc, ◌+◌, ◌-◌, ◌<◌, ◌≤◌, ◌^◌}
use native.Mathlib.Nat.{not-suc-le-zero}
use native.Mathlib.Omega.{arith}
use mathlib.Core.Path.{◌≡◌, refl, sym, ap, subst, ◌∙◌}
use mathlib.Core.List.{List, [], ◌∷◌}
use mathlib.Core.Bool.{Bool, true, false, ◌||◌, cond}
use lib.ListN.{length}
use lib.Dec.{eqb}
use borrow.Author.Tests.{eqb-true, eqb-false, eq-eqb, ne_eqb}
use denote.Enum.Declared.{tag_of}
use types.Run.{OneOf, miss}
use Rattle.counts.specs.Outcome.{Outcome, gives, refused, then, each}
use Rattle.counts.proofs.Alike.{true_false}
use Rattle.literal_grammar.specs.Bytes.{is_open, is_quote}
use Rattle.decimal.specs.Decimal.{is_digit}
use Rattle.literal_tokens.specs.Node.{Node, span, list, tuple, nodes}
use Rattle.literal_bytes.specs.Got.{Got, got, fault, deep, pos, with}
use Rattle.literal_bytes.specs.Text.{byte_at, kind_of}
use Rattle.literal_bytes.specs.declared.Parsed.{Parsed}
use Rattle.literal_bytes.specs.declared.Parsed.TheVariants.{Value, Deep}
use Rattle.literal_bytes.specs.declared.ValueKind.{ValueKind}
use Rattle.literal_bytes.specs.declared.ValueKind.TheVariants.{Curly, Quote, Minus, Digit, TrueWord, FalseWord, NoneWord, Other}
use Rattle.literal_bytes.specs.contracts.Parsed.{the_type}
use Rattle.literal.specs.Forget.{forget}
use Rattle.literal_bytes.specs.Gaps.{gap_at, then_at, need_at}
use Rattle.literal.specs.Brackets.{items_by, list_by, tuple_by}
use Rattle.literal.specs.Literal.{bracket_by, value}
use Rattle.literal_bytes.specs.declared.Gap.{Gap}
use Rattle.literal_bytes.specs.declared.Gap.TheVariants.{Shut, Item, Stray}
use Rattle.literal_bytes.specs.contracts.Gap as gap
use Rattle.literal.proofs.Ends.{pos_with, value_ahead}
use Rattle.literal.proofs.Steps.{thing, gap_left, gap_enough, gap_falls, read_ahead, tuple_stop, tuple_comma, value_deep, stop_by}
use Rattle.literal_bytes.proofs.GapEnds.{GapAhead, gap_ahead, then_ahead}
use Rattle.literal_bytes.proofs.Ends.{Stops, stops}
use Rattle.literal_bytes.proofs.Positions.{open_square, open_round}
use Rattle.shape_verdict.specs.declared.Outline.{Outline}
use Rattle.refusal.specs.declared.Refusal.{Refusal}
use Rattle.shape_verdict.specs.Outline.{outline_of, extended_by, extended_capped}
use Rattle.shape_verdict.specs.Answer.{rank_of}
use Rattle.shape_verdict.proofs.Outlines.{joined_below}
use Rattle.shape_text.specs.declared.ShapeJudged.{ShapeJudged}
use Rattle.shape_text.specs.Answer.{dimensions_at, JudgesShape}
use Rattle.shape_text.specs.Members.{closing_of, SizeAt}
use Rattle.shape_text.specs.Walk.{dimensions_of, goes_on_to, WalksMembers, judged_shut}
use Rattle.shape_text.proofs.Goes.{Counted, counted_at, counted_more}
use Rattle.shape_text.proofs.Held.{nothing_rank, goes_whole, goes_one, goes_none, rank_more, no_bracket}

-- ---- where there is no bracket
refused_goes : (v : Outcome Outline) (g : Got (List Node)) → Stops (pos g) → refused 11 ≡ goes_on_to v g
refused_goes v (got ns e) st = absurd st
refused_goes v (fault p) st = refl
refused_goes v (deep p) st = refl

walks_stop : (v : Outcome Outline) (g : Got (List Node)) (x : Parsed) → x ≡ pos g → Stops x → WalksMembers v g (record { ended = x; verdict = Err Refusal.NotShape })
walks_stop v g x h st = record { ends = h; says = refused_goes v g (subst (λ (y : Parsed). Stops y) h st) }

-- ---- the loop
module _ (k : ℕ) (s : List ℕ) (close from : ℕ) (met : Result Outline Refusal) where
  abbrev whole : Got (List Node)
  whole = list_by (value k s) s from close

  pub record Walking (g : Gap) (v : Result Outline Refusal) : Type 0 where
    pub bound : ℕ
    pub enough : gap_left (length s) g < bound
    pub ends : pos whole ≡ pos (items_by (value k s) s close bound g)
    pub says : goes_on_to (answer met) whole ≡ goes_on_to (answer v) (items_by (value k s) s close bound g)
    pub counted : Counted (rank_of v) g

  counted_first : (n : ℕ) (g : Gap) → n ≤ from → GapAhead from (length s) g → Counted n g
  counted_first n (Shut e) le h = tt
  counted_first n (Item p) le h = omega arith
  counted_first n (Stray p) le h = tt

  pub walking_start : (g : Gap) → close < 256 → rank_of met ≤ from → g ≡ gap_at s from close → Walking g met
  unfolding list_by
  walking_start g small le hg =
      subst (λ (x : Gap). Walking x met) (sym hg)
      (record {
        bound = length s + 2;
        enough = gap_enough (length s) (gap_at s from close);
        ends = refl;
        says = refl;
        counted = counted_first (rank_of met) (gap_at s from close) le (gap_ahead s from close small);
      })

  end_by_lem : (m : ℕ) (g : Gap) (v : Result Outline Refusal) → gap_left (length s) g < m → OneOf (0 ∷ 2 ∷ []) (tag_of gap.the_type g) → WalksMembers (answer v) (items_by (value k s) s close m g) (judged_shut g v)
  unfolding items_by
  end_by_lem zero g v lt o = absurd (not-suc-le-zero lt)
  end_by_lem (suc m) (Shut e) v lt o = record { ends = refl; says = goes_none v e }
  end_by_lem (suc m) (Stray p) v lt o = record { ends = refl; says = refl }
  end_by_lem (suc m) (Item p) v lt o = absurd (miss (0 ∷ 2 ∷ []) 1 tt o)

  pub walking_end : (g : Gap) (v : Result Outline Refusal) (r : ShapeJudged) → Walking g v → r ≡ judged_shut g v → OneOf (0 ∷ 2 ∷ []) (tag_of gap.the_type g) → WalksMembers (answer met) whole r
  walking_end g v r w hr o =
      let e = end_by_lem w.bound g v w.enough o in
      subst (λ (x : ShapeJudged). WalksMembers (answer met) whole x) (sym hr) (record { ends = e.ends ∙ sym w.ends; says = e.says ∙ sym w.says })

  pub walking_stop : (g : Gap) (v : Result Outline Refusal) (p : ℕ) (r : Parsed) → Walking g v → g ≡ Item p → r ≡ pos (value k s p) → OneOf (1 ∷ 2 ∷ []) (tag_of the_type r)
      → WalksMembers (answer met) whole (record { ended = r; verdict = Err Refusal.NotShape })
  walking_stop g v p r w hp hr o =
      let w' = subst (λ (x : Gap). Walking x v) hp w in
      let st = subst (λ (x : Parsed). Stops x) hr (stops r o) in
      walks_stop (answer met) whole r (hr ∙ sym (w'.ends ∙ stop_by (value k s) s close w'.bound p (value k s p) w'.enough refl st)) (stops r o)

  module _ (small : close < 256) (g g' : Gap) (v v' : Result Outline Refusal) (p q : ℕ) (r : Parsed) (d : Result ℕ Refusal) (hp : g ≡ Item p) (hq : r ≡ Value q) (hr : r ≡ pos (value k s p)) (hd : SizeAt s p d)
      (hv : answer v' ≡ then (answer v) (λ o. each (extended_capped o) (answer d))) (hg : g' ≡ then_at s q close) (fits : length s < 2 ^ 64) where
    ahead : (p < q) × (q ≤ length s)
    ahead = read_ahead p (length s) q r (pos (value k s p)) hr hq (value_ahead k s p)

    more_by : (m : ℕ) (n : Node) → value k s p ≡ got n q → gap_left (length s) (Item p) < m → pos whole ≡ pos (items_by (value k s) s close m (Item p))
        → goes_on_to (answer met) whole ≡ goes_on_to (answer v) (items_by (value k s) s close m (Item p)) → rank_of v ≤ p → Walking (then_at s q close) v'
    unfolding items_by
    more_by zero n hn lt he hs le = absurd (not-suc-le-zero lt)
    more_by (suc m) n hn lt he hs le =
        let after = then_ahead s q close small in
        let falls = gap_falls p q (length s) (then_at s q close) ahead.0 ahead.1 after in
        let joins = hv ∙ joined_below v (answer d) (omega (arith, ahead)) in
        record {
          bound = m;
          enough = omega arith;
          ends = he ∙ rw (items_by, hn) (pos_with (λ e. ◌∷◌ n) (items_by (value k s) s close m (then_at s q close)));
          says = hs ∙ rw (items_by, hn) (goes_one (answer v) n (items_by (value k s) s close m (then_at s q close)) ∙ rw (joins, hd k n q hn));
          counted = counted_more (rank_of v) (rank_of v') p q (length s) (then_at s q close) le (rank_more v v' d joins) ahead.0 after;
        }

    pub walking_more : Walking g v → Walking g' v'
    walking_more w =
        let w' = subst (λ (x : Gap). Walking x v) hp w in
        let t = thing (value k s p) q (sym hq ∙ hr) in
        subst (λ (x : Gap). Walking x v') (sym hg) (more_by w'.bound t.0 t.1 w'.enough w'.ends w'.says (counted_at (rank_of v) p g w.counted hp))

-- ---- a tuple
module _ (k : ℕ) (s : List ℕ) (at : ℕ) where
  shut_by : (g : Gap) (v : Result Outline Refusal) → gap_at s at 41 ≡ g → OneOf (0 ∷ 2 ∷ []) (tag_of gap.the_type g) → WalksMembers (answer v) (tuple_by (value k s) s at) (judged_shut g v)
  unfolding tuple_by
  shut_by (Shut e) v hg o = rw (tuple_by, hg) (record { ends = refl; says = goes_none v e })
  shut_by (Stray p) v hg o = rw (tuple_by, hg) (record { ends = refl; says = refl })
  shut_by (Item p) v hg o = absurd (miss (0 ∷ 2 ∷ []) 1 tt o)

  pub round_end : (g : Gap) (v : Result Outline Refusal) (o : Outline) (r : ShapeJudged) → g ≡ gap_at s at 41 → OneOf (0 ∷ 2 ∷ []) (tag_of gap.the_type g) → v ≡ Ok o → r ≡ judged_shut g v
      → WalksMembers (gives o) (tuple_by (value k s) s at) r
  round_end g v o r hg t hv hr =
      subst (λ (x : ShapeJudged). WalksMembers (gives o) (tuple_by (value k s) s at) x) (sym (hr ∙ ap (judged_shut g) hv)) (shut_by g (Ok o) (sym hg) t)

  module _ (v : Outcome Outline) (p : ℕ) (x : Parsed) (hg : gap_at s at 41 ≡ Item p) (hx : x ≡ pos (value k s p)) where
    pub round_stop : OneOf (1 ∷ 2 ∷ []) (tag_of the_type x) → WalksMembers v (tuple_by (value k s) s at) (record { ended = x; verdict = Err Refusal.NotShape })
    round_stop o = walks_stop v (tuple_by (value k s) s at) x (tuple_stop (value k s) s at p x hg hx (stops x o)) (stops x o)

    module _ (q : ℕ) (hq : x ≡ Value q) (c : Parsed) (hc : c ≡ need_at s q 44) where
      pub round_comma : OneOf (1 ∷ 2 ∷ []) (tag_of the_type c) → WalksMembers v (tuple_by (value k s) s at) (record { ended = c; verdict = Err Refusal.NotShape })
      round_comma o = walks_stop v (tuple_by (value k s) s at) c (tuple_comma (value k s) s at p q c hg (sym hq ∙ hx) hc (stops c o)) (stops c o)

      first_by : (n : Node) (e : ℕ) → value k s p ≡ got n q → need_at s q 44 ≡ Value e → tuple_by (value k s) s at ≡ with (λ e. ◌∷◌ n) (list_by (value k s) s e 41)
      unfolding tuple_by
      first_by n e hn he = rw (tuple_by, hg, hn, he)

      -- the first member is met, and the others are walked over after it
      pub round_more : (e : ℕ) (d : Result ℕ Refusal) (u : Result Outline Refusal) (r : ShapeJudged) → c ≡ Value e → SizeAt s p d → answer u ≡ then v (λ o. each (extended_by o) (answer d))
          → WalksMembers (answer u) (list_by (value k s) s e 41) r → WalksMembers v (tuple_by (value k s) s at) r
      round_more e d u r he hd hu w =
          let t = thing (value k s p) q (sym hq ∙ hx) in
          let b = first_by t.0 e t.1 (sym hc ∙ he) in
          record {
            ends = w.ends ∙ sym (ap pos b ∙ pos_with (λ e. ◌∷◌ t.0) (list_by (value k s) s e 41));
            says = w.says ∙ sym (ap (goes_on_to v) b ∙ goes_one v t.0 (list_by (value k s) s e 41) ∙ rw (hu, hd k t.0 q t.1));
          }

-- the verdict on a first member
pub first_joined : (v u : Result Outline Refusal) (d : Result ℕ Refusal) → v ≡ Ok (outline_of []) → answer u ≡ then (answer v) (λ o. each (extended_capped o) (answer d))
    → (answer u ≡ then (gives (outline_of [])) (λ o. each (extended_by o) (answer d))) × (rank_of u ≤ 1)
first_joined v u d hv hu =
    let z = nothing_rank v hv in
    let joins = hu ∙ joined_below v (answer d) (omega arith) in
    (joins ∙ ap (λ (x : Result Outline Refusal). then (answer x) (λ o. each (extended_by o) (answer d))) hv, omega (arith, rank_more v u d joins))

-- ---- the value around them
module _ (f : ℕ → List Node → Node) (same : (e : ℕ) (ns : List Node) → dimensions_at (got (f e ns) e) ≡ dimensions_of ns) where
  around : (g : Got (List Node)) → goes_on_to (gives (outline_of [])) g ≡ each outline_of (dimensions_at (with f g))
  unfolding with
  around (got ns e) = sym (goes_whole (dimensions_of ns)) ∙ sym (ap (each outline_of) (same e ns))
  around (fault p) = refl
  around (deep p) = refl

  judged_around : (g : Got Node) (h : Got (List Node)) (r : ShapeJudged) → g ≡ with f h → WalksMembers (gives (outline_of [])) h r → JudgesShape g r
  judged_around g h r e w =
      record {
        ends = w.ends ∙ sym (ap pos e ∙ pos_with f h);
        says = w.says ∙ around h ∙ sym (ap (λ (x : Got Node). each outline_of (dimensions_at x)) e);
      }

list_same : (at e : ℕ) (ns : List Node) → dimensions_at (got (list (span at e) (nodes ns)) e) ≡ dimensions_of ns
unfolding forget
list_same at e ns = refl

tuple_same : (at e : ℕ) (ns : List Node) → dimensions_at (got (tuple (span at e) (nodes ns)) e) ≡ dimensions_of ns
unfolding forget
tuple_same at e ns = refl

-- the two brackets that open a shape
abbrev pub is_shape : ℕ → Bool
is_shape b = eqb b 91 || eqb b 40

pub no_shape : (b : ℕ) → is_shape b ≡ false → (b ≡ 91 → ⊥) × (b ≡ 40 → ⊥)
no_shape b h = go (eqb b 91) (eqb b 40) refl refl h
  where
    go : (t u : Bool) → eqb b 91 ≡ t → eqb b 40 ≡ u → (t || u) ≡ false → (b ≡ 91 → ⊥) × (b ≡ 40 → ⊥)
    go true u ht hu e = true_false e
    go false true ht hu e = true_false e
    go false false ht hu e = (eqb-false b 91 ht, eqb-false b 40 hu)

pub shape_round : (b : ℕ) → is_shape b ≡ true → (b ≡ 91 → ⊥) → b ≡ 40
shape_round b h no_square = eqb-true b 40 (rw (ne_eqb b 91 no_square) at h)

pub shape_open : (b : ℕ) → is_shape b ≡ true → is_open b ≡ true
unfolding is_open
shape_open b h = go (eqb b 91) (eqb b 40) (eqb b 123) h
  where
    go : (t u v : Bool) → (t || u) ≡ true → (t || u || v) ≡ true
    go true u v e = refl
    go false true v e = refl
    go false false v e = true_false (sym e)

module _ (s : List ℕ) (at : ℕ) where
  square_by : (j : ℕ) → byte_at s at ≡ 91 → value (suc j) s at ≡ with (λ e ns. list (span at e) (nodes ns)) (list_by (value j s) s (at + 1) 93)
  unfolding value bracket_by
  square_by j h = rw (value, open_square (byte_at s at) h, bracket_by, eq-eqb _ _ h)

  round_by : (j : ℕ) → (byte_at s at ≡ 91 → ⊥) → byte_at s at ≡ 40 → value (suc j) s at ≡ with (λ e ns. tuple (span at e) (nodes ns)) (tuple_by (value j s) s (at + 1))
  unfolding value bracket_by
  round_by j no_square h = rw (value, open_round (byte_at s at) h, bracket_by, ne_eqb _ _ no_square, eq-eqb _ _ h)

  module _ (k : ℕ) (some : k ≡ 0 → ⊥) where
    above : suc (k - 1) ≡ k
    above = omega arith

    pub judged_square : byte_at s at ≡ 91 → (v : Result Outline Refusal) → v ≡ Ok (outline_of []) → (r : ShapeJudged) → WalksMembers (answer v) (list_by (value (k - 1) s) s (at + 1) 93) r → JudgesShape (value k s at) r
    judged_square h v hv r w =
        judged_around (λ e ns. list (span at e) (nodes ns)) (list_same at) (value k s at) (list_by (value (k - 1) s) s (at + 1) 93) r (ap (λ (j : ℕ). value j s at) (sym above) ∙ square_by (k - 1) h)
        (subst (λ (x : Outcome Outline). WalksMembers x (list_by (value (k - 1) s) s (at + 1) 93) r) (ap answer hv) w)

    pub judged_round : (byte_at s at ≡ 91 → ⊥) → byte_at s at ≡ 40 → (r : ShapeJudged) → WalksMembers (gives (outline_of [])) (tuple_by (value (k - 1) s) s (at + 1)) r → JudgesShape (value k s at) r
    judged_round no_square h r w = judged_around (λ e ns. tuple (span at e) (nodes ns)) (tuple_same at) (value k s at) (tuple_by (value (k - 1) s) s (at + 1)) r (ap (λ (j : ℕ). value j s at) (sym above) ∙ round_by (k - 1) no_square h) w

-- a value that is no list and no tuple
closed : (t : Bool) (x y : ValueKind) → closing_of x ≡ 0 → closing_of y ≡ 0 → closing_of (cond t x y) ≡ 0
closed true x y hx hy = hx
closed false x y hx hy = hy

no_closing : (b : ℕ) → (b ≡ 91 → ⊥) → (b ≡ 40 → ⊥) → closing_of (kind_of b) ≡ 0
unfolding kind_of
no_closing b ns nr =
    rw (ne_eqb b 91 ns, ne_eqb b 40 nr)
    (closed (eqb b 123) Curly _ refl
    (closed (eqb b 45) Minus _ refl
    (closed (eqb b 84) TrueWord _ refl
    (closed (eqb b 70) FalseWord _ refl
    (closed (eqb b 78) NoneWord _ refl
    (closed (is_quote b) Quote _ refl
    (closed (is_digit b) Digit Other refl refl)))))))

module _ (k : ℕ) (s : List ℕ) (at : ℕ) (x : Parsed) (hx : x ≡ pos (value k s at)) where
  other_by : (g : Got Node) → value k s at ≡ g → closing_of (kind_of (byte_at s at)) ≡ 0 → refused 11 ≡ each outline_of (dimensions_at g)
  other_by (got n e) h z = rw (no_bracket k s at e n h 11 (kind_of (byte_at s at)) refl z)
  other_by (fault p) h z = refl
  other_by (deep p) h z = refl

  pub judged_other : (byte_at s at ≡ 91 → ⊥) → (byte_at s at ≡ 40 → ⊥) → JudgesShape (value k s at) (record { ended = x; verdict = Err Refusal.NotShape })
  judged_other ns nr = record { ends = hx; says = other_by (value k s at) refl (no_closing (byte_at s at) ns nr) }

pub judged_deep : (k : ℕ) (s : List ℕ) (at : ℕ) → k ≡ 0 → is_open (byte_at s at) ≡ true → JudgesShape (value k s at) (record { ended = Deep at; verdict = Err Refusal.NotShape })
judged_deep k s at z o =
    let e = value_deep s at k z o in
    record { ends = ap pos e; says = ap (λ (g : Got Node). each outline_of (dimensions_at g)) e }
