-- What a value is judged as, by the kind of its first byte: a string, a list, a list or tuple, or none of them. By the two views of crate literal.
use Rattle.refusal.specs.Answers.{answer}
use Prim.Native.Nat.{ℕ, ◌+◌, ◌-◌, ◌<◌}
use native.Mathlib.Omega.{arith}
use mathlib.Core.Path.{◌≡◌, refl, sym, ap, subst, ◌∙◌}
use mathlib.Core.Logic.{◌⊎◌, inl, inr, ⊎_elim}
use mathlib.Core.List.{List}
use mathlib.Core.Bool.{Bool, true, false, cond}
use lib.ListN.{length}
use lib.Dec.{eqb}
use borrow.Author.Tests.{eqb-true}
use Rattle.counts.specs.Outcome.{Outcome, gives, refused, each}
use Rattle.counts.proofs.Alike.{true_false}
use Rattle.type_str.specs.declared.TypeStr.{TypeStr}
use Rattle.type_str.specs.TypeString.{type_string}
use Rattle.dtype.specs.Dtype.{plain}
use Rattle.decimal.specs.Decimal.{is_digit}
use Rattle.literal_grammar.specs.Bytes.{is_open, is_quote}
use Rattle.literal_grammar.specs.Value as value
use Rattle.shape_text.specs.Members.{closing_of}
use Rattle.literal_tokens.specs.Node.{Node, string, integer, True, False, None, list, tuple, dict}
use Rattle.literal_bytes.specs.Got.{Got, got, deep, pos}
use Rattle.literal_bytes.specs.Text.{byte_at, kind_of}
use Rattle.literal_bytes.proofs.Positions.{open_in, open_square, open_round}
use Rattle.literal_escapes.specs.Strings.{spelled}
use Rattle.literal.specs.Literal.{value as value_of}
use Rattle.literal_bytes.specs.Gaps.{gap_at}
use Rattle.literal.specs.Rows.{RowOf}
use Rattle.literal.specs.Forget.{forget}
use Rattle.literal_bytes.specs.declared.Parsed.TheVariants.{Deep}
use Rattle.literal_bytes.specs.declared.ValueKind.{ValueKind}
use Rattle.literal_bytes.specs.declared.ValueKind.TheVariants.{Square, Round, Curly, Quote, Minus, Digit, TrueWord, FalseWord, NoneWord, Other}
use Rattle.literal.proofs.Steps.{value_deep, value_list, value_tuple}
use Rattle.literal.proofs.View.{view, value_kind, kind_of_node}
use Rattle.descr_totals.specs.declared.Totals.{Totals}
use Rattle.descr_totals.specs.Totals.{totals_of, name_totals}
use Rattle.descr_totals.proofs.Sums.{one_entry}
use Rattle.descr_totals.specs.Verdict.{both}
use Rattle.descr_field.specs.Begins.{is_string}
use Rattle.descr_field.proofs.Begins.{string_kind}
use Rattle.descr_field.specs.Parts.{name_verdict}
use Rattle.descr_field.proofs.Names.{string_ends}
use Rattle.descr_field.specs.declared.DescrJudged.{DescrJudged}
use Rattle.descr.specs.Judges.{JudgesDescr, JudgesFrom, typed_at}
use Rattle.descr.proofs.Adds.{fields_by, field_by, name_by, descr_by, field_of_items, record_step}
use Rattle.descr_field.proofs.Reach.{inside, list_from}
use Rattle.descr.proofs.Along.{JudgesInside, values_of}

square_kind : (k : ValueKind) → closing_of k ≡ 93 → k ≡ Square
square_kind Square h = refl
square_kind Round h = absurd (omega arith)
square_kind Curly h = absurd (omega arith)
square_kind Quote h = absurd (omega arith)
square_kind Minus h = absurd (omega arith)
square_kind Digit h = absurd (omega arith)
square_kind TrueWord h = absurd (omega arith)
square_kind FalseWord h = absurd (omega arith)
square_kind NoneWord h = absurd (omega arith)
square_kind Other h = absurd (omega arith)

each_plain : (o : Outcome TypeStr) → each totals_of (each plain o) ≡ each (λ t. totals_of (plain t)) o
each_plain (gives t) = refl
each_plain (refused n) = refl

module _ (s : List ℕ) (at : ℕ) where
  module _ (k : ℕ) (n : Node) (e : ℕ) (h : value_of k s at ≡ got n e) where
    string_is : is_string (kind_of (byte_at s at)) ≡ true → forget n ≡ value.string (spelled (byte_at s at) s (at + 1)).bytes
    unfolding forget
    string_is t = ap forget (view k s at h (string_kind (kind_of (byte_at s at)) t)).0

    text_says : is_string (kind_of (byte_at s at)) ≡ true → descr_by (forget n) ≡ typed_at s at
    text_says t = ap descr_by (string_is t) ∙ each_plain (type_string (spelled (byte_at s at) s (at + 1)).bytes)

    descr_by_lem : (m : Node) → is_string (kind_of_node m) ≡ false → (closing_of (kind_of_node m) ≡ 93 → ⊥) → descr_by (forget m) ≡ refused 14
    unfolding forget
    descr_by_lem (string p w) a b = true_false a
    descr_by_lem (integer p true i) a b = refl
    descr_by_lem (integer p false i) a b = refl
    descr_by_lem (True p) a b = refl
    descr_by_lem (False p) a b = refl
    descr_by_lem (None p) a b = refl
    descr_by_lem (list p ns) a b = absurd (b refl)
    descr_by_lem (tuple p ns) a b = refl
    descr_by_lem (dict p ps) a b = refl

    descr_other : is_string (kind_of (byte_at s at)) ≡ false → (closing_of (kind_of (byte_at s at)) ≡ 93 → ⊥) → descr_by (forget n) ≡ refused 14
    descr_other a b =
        let q = value_kind k s at h in
        descr_by_lem n (ap is_string (sym q) ∙ a) (λ z. b (ap closing_of q ∙ z))

    field_by_lem : (m : Node) → closing_of (kind_of_node m) ≡ 0 → field_by (forget m) ≡ refused 14
    unfolding forget
    field_by_lem (string p w) a = refl
    field_by_lem (integer p true i) a = refl
    field_by_lem (integer p false i) a = refl
    field_by_lem (True p) a = refl
    field_by_lem (False p) a = refl
    field_by_lem (None p) a = refl
    field_by_lem (list p ns) a = absurd (omega arith)
    field_by_lem (tuple p ns) a = absurd (omega arith)
    field_by_lem (dict p ps) a = refl

    field_other : closing_of (kind_of (byte_at s at)) ≡ 0 → field_by (forget n) ≡ refused 14
    field_other a = field_by_lem n (ap closing_of (sym (value_kind k s at h)) ∙ a)

    name_by_lem : (m : Node) → is_string (kind_of_node m) ≡ false → name_by (forget m) ≡ refused 14
    unfolding forget
    name_by_lem (string p w) a = true_false a
    name_by_lem (integer p true i) a = refl
    name_by_lem (integer p false i) a = refl
    name_by_lem (True p) a = refl
    name_by_lem (False p) a = refl
    name_by_lem (None p) a = refl
    name_by_lem (list p ns) a = refl
    name_by_lem (tuple p ns) a = refl
    name_by_lem (dict p ps) a = refl

    name_other : is_string (kind_of (byte_at s at)) ≡ false → name_by (forget n) ≡ refused 14
    name_other a = name_by_lem n (ap is_string (sym (value_kind k s at h)) ∙ a)

    pub name_says : name_verdict s at ≡ name_by (forget n)
    name_says = go (is_string (kind_of (byte_at s at))) refl
      where
        go : (t : Bool) → is_string (kind_of (byte_at s at)) ≡ t → cond t (gives (name_totals (length (spelled (byte_at s at) s (at + 1)).bytes))) (refused 14) ≡ name_by (forget n)
        go true t = sym (ap name_by (string_is t))
        go false t = sym (name_other t)

    -- a list, and what is in it
    record_is : closing_of (kind_of (byte_at s at)) ≡ 93
        → (0 < k) × (ns : List Node) × (descr_by (forget n) ≡ both (gives one_entry) (fields_by (values_of ns))) × RowOf (value_of (k - 1) s) s 93 ns (gap_at s (at + 1) 93) e
    unfolding forget
    record_is c =
        let v = view k s at h (square_kind (kind_of (byte_at s at)) c) in
        (v.0, v.1, ap (λ (m : Node). descr_by (forget m)) v.2 ∙ record_step (values_of v.1), v.3)

    -- a list or a tuple, and what is in it
    field_is : (closing_of (kind_of (byte_at s at)) ≡ 0 → ⊥) → (close : ℕ) → close ≡ closing_of (kind_of (byte_at s at))
        → (0 < k) × (ns : List Node) × (field_by (forget n) ≡ field_of_items (values_of ns)) × RowOf (value_of (k - 1) s) s close ns (gap_at s (at + 1) close) e
    unfolding forget
    field_is c close hc = go (kind_of (byte_at s at)) refl c hc
      where
        go : (d : ValueKind) → kind_of (byte_at s at) ≡ d → (closing_of d ≡ 0 → ⊥) → close ≡ closing_of d
            → (0 < k) × (ns : List Node) × (field_by (forget n) ≡ field_of_items (values_of ns)) × RowOf (value_of (k - 1) s) s close ns (gap_at s (at + 1) close) e
        go Square hd c hc =
            let v = view k s at h hd in
            (v.0, v.1, ap (λ (m : Node). field_by (forget m)) v.2, subst (λ (x : ℕ). RowOf (value_of (k - 1) s) s x v.1 (gap_at s (at + 1) x) e) (sym hc) v.3)
        go Round hd c hc =
            let v = view k s at h hd in
            (v.0, v.1, ap (λ (m : Node). field_by (forget m)) v.2, subst (λ (x : ℕ). RowOf (value_of (k - 1) s) s x v.1 (gap_at s (at + 1) x) e) (sym hc) v.3)
        go Curly hd c hc = absurd (c refl)
        go Quote hd c hc = absurd (c refl)
        go Minus hd c hc = absurd (c refl)
        go Digit hd c hc = absurd (c refl)
        go TrueWord hd c hc = absurd (c refl)
        go FalseWord hd c hc = absurd (c refl)
        go NoneWord hd c hc = absurd (c refl)
        go Other hd c hc = absurd (c refl)

-- ---- the byte that a list or tuple begins with
closing_byte : (b : ℕ) → closing_of (kind_of b) ≡ cond (eqb b 91) 93 (cond (eqb b 40) 41 0)
unfolding kind_of
closing_byte b = go (eqb b 91) (eqb b 40) (eqb b 123) (eqb b 45) (eqb b 84) (eqb b 70) (eqb b 78) (is_quote b) (is_digit b)
  where
    go : (t u v w x y z q d : Bool)
        → closing_of (cond t Square (cond u Round (cond v Curly (cond w Minus (cond x TrueWord (cond y FalseWord (cond z NoneWord (cond q Quote (cond d Digit Other))))))))) ≡ cond t 93 (cond u 41 0)
    go true u v w x y z q d = refl
    go false true v w x y z q d = refl
    go false false true w x y z q d = refl
    go false false false true x y z q d = refl
    go false false false false true y z q d = refl
    go false false false false false true z q d = refl
    go false false false false false false true q d = refl
    go false false false false false false false true d = refl
    go false false false false false false false false true = refl
    go false false false false false false false false false = refl

abbrev Opening : ℕ → ℕ → Type 0
Opening b close = ((b ≡ 91) × (close ≡ 93)) ⊎ ((b ≡ 40) × (close ≡ 41))

opening_byte : (b close : ℕ) → close ≡ closing_of (kind_of b) → (close ≡ 0 → ⊥) → Opening b close
opening_byte b close hc some = go (eqb b 91) (eqb b 40) refl refl (hc ∙ closing_byte b)
  where
    go : (t u : Bool) → eqb b 91 ≡ t → eqb b 40 ≡ u → close ≡ cond t 93 (cond u 41 0) → Opening b close
    go true u ht hu h = inl (eqb-true b 91 ht, h)
    go false true ht hu h = inr (eqb-true b 40 hu, h)
    go false false ht hu h = absurd (some h)

-- ---- the walk over the value at `at`, by what is there
module _ (k : ℕ) (s : List ℕ) (at : ℕ) where
  -- a string, scanned once
  pub type_judged : (r : DescrJudged) → is_string (kind_of (byte_at s at)) ≡ true → r.ended ≡ (spelled (byte_at s at) s (at + 1)).ended → answer r.verdict ≡ typed_at s at → JudgesDescr k s at descr_by r
  type_judged r t he hv = record { ends = string_ends s at k r.ended t he; of_value = λ n e h. hv ∙ sym (text_says s at k n e h t) }

  -- a value of another form
  module _ (r : DescrJudged) (he : r.ended ≡ pos (value_of k s at)) (hv : answer r.verdict ≡ refused 14) where
    pub descr_no_form : is_string (kind_of (byte_at s at)) ≡ false → (closing_of (kind_of (byte_at s at)) ≡ 93 → ⊥) → JudgesDescr k s at descr_by r
    descr_no_form a b = record { ends = he; of_value = λ n e h. hv ∙ sym (descr_other s at k n e h a b) }

    pub field_no_form : closing_of (kind_of (byte_at s at)) ≡ 0 → JudgesDescr k s at field_by r
    field_no_form a = record { ends = he; of_value = λ n e h. hv ∙ sym (field_other s at k n e h a) }

  -- a list or tuple
  module _ (close : ℕ) (hc : close ≡ closing_of (kind_of (byte_at s at))) (some : close ≡ 0 → ⊥) where
    opens : is_open (byte_at s at) ≡ true
    opens = ⊎_elim (λ z. open_square (byte_at s at) z.0) (λ z. open_round (byte_at s at) z.0) (opening_byte (byte_at s at) close hc some)

    pub bracket_in : at < length s
    bracket_in = open_in s at opens

    pub bracket_small : close < 256
    bracket_small = ⊎_elim (λ z. omega (arith, z.1)) (λ z. omega (arith, z.1)) (opening_byte (byte_at s at) close hc some)

    -- which may not open
    pub too_deep_lem : (f : value.Value → Outcome Totals) (r : DescrJudged) → k ≡ 0 → r.ended ≡ Deep at → JudgesDescr k s at f r
    too_deep_lem f r z he =
        let d : deep at ≡ value_of k s at = value_deep s at k z opens in
        record { ends = he ∙ ap (λ (g : Got Node). pos g) d; of_value = λ n e h. absurd (let w : deep at ≡ got n e = d ∙ h in let y : ◌≡◌ {A = ℕ} 0 1 = cc in omega arith) }

    module _ (room : k ≡ 0 → ⊥) where
      inside_ends : pos (inside (k - 1) s (at + 1) close) ≡ pos (value_of k s at)
      inside_ends = ⊎_elim square round (opening_byte (byte_at s at) close hc some)
        where
          square : (byte_at s at ≡ 91) × (close ≡ 93) → pos (inside (k - 1) s (at + 1) close) ≡ pos (value_of k s at)
          square z = ap (λ (c : ℕ). pos (inside (k - 1) s (at + 1) c)) z.1 ∙ value_list s at opens k room z.0

          round : (byte_at s at ≡ 40) × (close ≡ 41) → pos (inside (k - 1) s (at + 1) close) ≡ pos (value_of k s at)
          round z = ap (λ (c : ℕ). pos (inside (k - 1) s (at + 1) c)) z.1 ∙ value_tuple s at opens k room (λ y. absurd (omega (arith, z.0))) z.0

      pub field_judged : (r : DescrJudged) → JudgesInside (k - 1) s (at + 1) close r → JudgesDescr k s at field_by r
      field_judged r j =
          record {
            ends = j.ends ∙ inside_ends;
            of_value = λ n e h.
                let i = field_is s at k n e h (λ z. some (hc ∙ z)) close hc in
                j.of_row i.1 e i.3 ∙ sym i.2;
          }

      pub record_judged : close ≡ 93 → (j r : DescrJudged) → JudgesFrom (k - 1) s 93 (gap_at s (at + 1) 93) fields_by j → r.ended ≡ j.ended → answer r.verdict ≡ both (gives one_entry) (answer j.verdict) → JudgesDescr k s at descr_by r
      record_judged h93 j r hj he hv =
          record {
            ends = he ∙ (hj.ends ∙ (ap (λ (y : Got (List Node)). pos y) (list_from (k - 1) s (at + 1) 93) ∙ (sym (ap (λ (c : ℕ). pos (inside (k - 1) s (at + 1) c)) h93) ∙ inside_ends)));
            of_value = λ n e h.
                let i = record_is s at k n e h (sym hc ∙ h93) in
                hv ∙ (ap (λ (x : Outcome Totals). both (gives one_entry) x) (hj.of_row i.1 e i.3) ∙ sym i.2);
          }
