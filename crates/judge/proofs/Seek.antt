-- The walk over the pairs of a dict. What it keeps: the keys are all strings if those that were met and those that are left are, and the value that counts
-- for a key is the one found so far, or one that is left. Then the dict around the pairs.
use Rattle.refusal.specs.Answers.{answer}
use Rattle.judge.specs.declared.Shape.{Shape}
use Rattle.judge.specs.declared.Descr.{Descr}
use Rattle.dtype.specs.declared.Order.{Order}
use Rattle.std.specs.Prelude.{Err, Result}
use Prim.Native.Nat.{ℕ, suc, ◌+◌}
use native.Mathlib.Omega.{arith}
use mathlib.Core.Path.{◌≡◌, refl, sym, ap, subst, ◌∙◌}
use mathlib.Core.List.{List, [], ◌∷◌}
use mathlib.Core.Bool.{Bool, true, false, cond, ◌&&◌, and-true, and_assoc}
use denote.Enum.Declared.{tag_of}
use types.Run.{OneOf, miss}
use Rattle.counts.specs.Outcome.{Outcome, gives, refused, then, each, given}
use Rattle.refusal.specs.declared.Refusal.{Refusal}
use Rattle.record.specs.Parts.{string_or}
use Rattle.record.specs.Descr.{descr_of}
use Rattle.record.specs.Dimensions.{shape_of}
use Rattle.record.specs.Dict.{key_order, key_shape, key_descr, is_the, all_strings}
use Rattle.literal_tokens.specs.Node.{Node, Pair, NodePairs, span, dict, pairs}
use Rattle.literal_bytes.specs.Got.{Got, got, fault, deep, pos, with}
use Rattle.literal.specs.Forget.{forget, forget_pairs}
use Rattle.literal_bytes.specs.Text.{byte_at, kind_of}
use Rattle.literal_bytes.specs.Gaps.{gap_at, ended_at}
use Rattle.literal.specs.Brackets.{list_by, key_by, pair_by}
use Rattle.literal.specs.Literal.{value}
use Rattle.literal_bytes.specs.declared.Gap.{Gap}
use Rattle.literal_bytes.specs.declared.Gap.TheVariants.{Item}
use Rattle.literal_bytes.specs.declared.Parsed.{Parsed}
use Rattle.literal_bytes.specs.declared.Parsed.TheVariants.{Value as Ends}
use Rattle.literal_bytes.specs.declared.ValueKind.{ValueKind}
use Rattle.literal_bytes.specs.declared.ValueKind.TheVariants.{Curly}
use Rattle.literal_bytes.specs.contracts.Parsed.{the_type}
use Rattle.literal_bytes.specs.contracts.Gap as gap
use Rattle.literal.proofs.Ends.{pos_with}
use Rattle.literal.proofs.Rows.{RowGot, row_list, pair_parts, key_there}
use Rattle.literal_bytes.proofs.Ends.{Stops, stops}
use Rattle.literal.proofs.Steps.{Turn, turn_end, turn_stop}
use Rattle.shape_text.proofs.Goes.{Goes, goes_end}
use Rattle.shape_text.specs.Answer.{JudgesShape}
use Rattle.shape_text.specs.declared.ShapeJudged.{ShapeJudged}
use Rattle.shape_verdict.specs.Outline.{outline_of}
use Rattle.descr_totals.specs.Totals.{totals_of}
use Rattle.descr_field.specs.declared.DescrJudged.{DescrJudged}
use Rattle.descr.specs.Judges.{JudgesAt}
use Rattle.judge_names.specs.declared.Name as name
use Rattle.judge_names.specs.declared.Name.{Name}
use Rattle.judge_names.specs.Answer.{OrderIs, key_of, WordAt}
use Rattle.judge_names.specs.contracts.Name.{the_type as the_name}
use Rattle.judge.specs.declared.keys.Walked.{Walked}
use Rattle.judge.specs.Pairs.{is_key, last_in, node_for, keyed, keyed_at}
use Rattle.judge.specs.Found.{placed_shape, placed_descr, ranked_at, DescrFoundIs, ShapeFoundIs}
use Rattle.judge.specs.Keys.{KeysAt, NameAt, Takes, OrderTaken, WalkedOf}
use Rattle.judge.proofs.Nodes.{items_in}
use Rattle.judge.proofs.Braces.{NoCurly, dict_at, no_braces}
use Rattle.judge.proofs.Found.{found_none, shape_here, descr_here}

-- ---- a pair that was read, and its parts
module _ (rd : ℕ → Got Node) (s : List ℕ) (p : ℕ) where
  key_of_lem : (u : Pair) (q : ℕ) → pair_by rd s p ≡ got u q → (y : ℕ) × (rd p ≡ got u.key y)
  key_of_lem u q h = let x = pair_parts rd s p q u h in key_there rd s p x.0 u.key x.1

  value_of : (u : Pair) (q at : ℕ) → pair_by rd s p ≡ got u q → Ends at ≡ pos (key_by rd s p) → rd at ≡ got u.value q
  value_of u q at h ha =
      let x = pair_parts rd s p q u h in
      let z : Ends at ≡ Ends x.0 = ha ∙ ap pos x.1 in
      let y : at ≡ x.0 = cc in
      ap rd y ∙ x.2

-- ---- whether the keys are all strings
abbrev strings_in : List Pair → Bool
strings_in ps = all_strings (forget_pairs (pairs ps))

-- those that were met are if b, and those that are left
abbrev Strings : Bool → List Pair → List Pair → Type 0
Strings b ps us = strings_in ps ≡ b && strings_in us

strings_end : (b : Bool) (ps : List Pair) → Strings b ps [] → strings_in ps ≡ b
unfolding forget_pairs
strings_end b ps h = h ∙ and-true b

strings_more : (b b' : Bool) (name : Name) (u : Pair) (ps us : List Pair) → b' ≡ b && given (key_of name) → given (string_or 8 (forget u.key)) ≡ given (key_of name) → Strings b ps (u ∷ us) → Strings b' ps us
unfolding forget_pairs
strings_more b b' name u ps us hb hu h = h ∙ ap (λ (x : Bool). b && (x && strings_in us)) hu ∙ sym (and_assoc b (given (key_of name)) (strings_in us)) ∙ ap (λ (x : Bool). x && strings_in us) (sym hb)

-- ---- the value that counts, by what an answer says of it
module _ {F : Type 0} (Is : F → Outcome Node → Type 0) (w : List ℕ) where
  abbrev Counts : F → List Pair → List Pair → Type 0
  Counts f ps us = (was : Outcome Node) × Is f was × (last_in w (refused 9) (pairs ps) ≡ last_in w was (pairs us))

  counts_start : (f : F) → Is f (refused 9) → (ps : List Pair) → Counts f ps ps
  counts_start f h ps = (refused 9, h, refl)

  counts_end : (f : F) (ps : List Pair) → Counts f ps [] → Is f (last_in w (refused 9) (pairs ps))
  counts_end f ps h = subst (Is f) (sym h.2) h.1

  counts_more : (f f' : F) (b : Bool) (u : Pair) (ps us : List Pair) → is_key w u.key ≡ b → Takes b (Is f' (gives u.value)) (f' ≡ f) → Counts f ps (u ∷ us) → Counts f' ps us
  counts_more f f' b u ps us hb t h =
      (cond (is_key w u.key) (gives u.value) h.0, by (is_key w u.key) (subst (λ (z : Bool). Takes z (Is f' (gives u.value)) (f' ≡ f)) (sym hb) t), h.2)
    where
      by : (z : Bool) → Takes z (Is f' (gives u.value)) (f' ≡ f) → Is f' (cond z (gives u.value) h.0)
      by true t = t
      by false t = subst (λ (y : F). Is y h.0) (sym t) h.1

-- ---- one more pair
-- what is found for the three keys
pub record Three : Type 0 where
  pub descr : Result Descr Refusal
  pub order : Result Order Refusal
  pub shape : Result Shape Refusal

-- what is found after a pair of this name, whose value is v
pub record PairOf (k : ℕ) (s : List ℕ) (v : Node) (name : Name) (was r : Three) : Type 0 where
  pub of_descr : Takes (is_the key_descr (key_of name)) (DescrFoundIs k s r.descr (gives v)) (r.descr ≡ was.descr)
  pub of_order : Takes (is_the key_order (key_of name)) (OrderIs r.order (gives v)) (r.order ≡ was.order)
  pub of_shape : Takes (is_the key_shape (key_of name)) (ShapeFoundIs k s r.shape (gives v)) (r.shape ≡ was.shape)

-- how the value at the position ended, and the same, whichever value is there
pub record PairIs (k : ℕ) (s : List ℕ) (at : ℕ) (name : Name) (was : Three) (end : Parsed) (r : Three) : Type 0 where
  pub ended : end ≡ pos (value k s at)
  pub found : (v : Node) (e : ℕ) → value k s at ≡ got v e → PairOf k s v name was r

-- the order, by the name
pub order_here : (s : List ℕ) (at : ℕ) (n : Name) (was x : Result Order Refusal) → n ≡ name.Name.Order → WordAt s at x → OrderTaken s at n was x
order_here s at n was x z h = λ k v e g. subst (λ (m : Name). Takes (is_the key_order (key_of m)) (OrderIs x (gives v)) (x ≡ was)) (sym z) (h k v e g)

-- what the arm of the other names knows
abbrev pub NoOrder : Name → Type 0
NoOrder n = OneOf (0 ∷ 2 ∷ 3 ∷ 4 ∷ []) (tag_of the_name n)

pub order_kept : (s : List ℕ) (at : ℕ) (n : Name) (was : Result Order Refusal) → NoOrder n → OrderTaken s at n was was
order_kept s at name.Name.Descr was o = λ k v e g. refl
order_kept s at name.Name.Order was o = absurd (miss (0 ∷ 2 ∷ 3 ∷ 4 ∷ []) 1 tt o)
order_kept s at name.Name.Shape was o = λ k v e g. refl
order_kept s at name.Name.Extra was o = λ k v e g. refl
order_kept s at name.Name.NoString was o = λ k v e g. refl

-- what the arm knows that finds nothing but an order
abbrev pub Else : Name → Type 0
Else n = OneOf (1 ∷ 3 ∷ 4 ∷ []) (tag_of the_name n)

-- the pair, by its name, after one that left d, w and h; o is the order then
module _ (k : ℕ) (s : List ℕ) (at : ℕ) (n : Name) (d : Result Descr Refusal) (w o : Result Order Refusal) (h : Result Shape Refusal) (ho : OrderTaken s at n w o) where
  abbrev was : Three
  was = record { descr = d; order = w; shape = h }

  order_as : (m : Name) → n ≡ m → (v : Node) (e : ℕ) → value k s at ≡ got v e → Takes (is_the key_order (key_of m)) (OrderIs o (gives v)) (o ≡ w)
  order_as m z v e g = subst (λ (x : Name). Takes (is_the key_order (key_of x)) (OrderIs o (gives v)) (o ≡ w)) z (ho k v e g)

  named_as : (m : Name) → n ≡ m → (end : Parsed) (r : Three) → PairIs k s at m was end r → PairIs k s at n was end r
  named_as m z end r h = subst (λ (x : Name). PairIs k s at x was end r) (sym z) h

  pub pair_descr : n ≡ name.Name.Descr → (j : DescrJudged) (x : Result Descr Refusal) → JudgesAt (value k s at) j → answer x ≡ each (placed_descr at) (answer j.verdict)
      → PairIs k s at n was j.ended (record { descr = x; order = o; shape = h })
  pair_descr z j x hj hx =
      named_as name.Name.Descr z j.ended _ (record { ended = hj.ends; found = λ v e g. record { of_descr = descr_here k s at j x hj hx v e g; of_order = order_as name.Name.Descr z v e g; of_shape = refl } })

  pub pair_shape : n ≡ name.Name.Shape → (j : ShapeJudged) (x : Result Shape Refusal) → JudgesShape (value k s at) j → answer x ≡ then (answer j.verdict) (ranked_at at)
      → PairIs k s at n was j.ended (record { descr = d; order = o; shape = x })
  pair_shape z j x hj hx =
      named_as name.Name.Shape z j.ended _ (record { ended = hj.ends; found = λ v e g. record { of_descr = refl; of_order = order_as name.Name.Shape z v e g; of_shape = shape_here k s at j x hj hx v e g } })

  -- where what was found and how the value ended have other names
  pub pair_as : {x y : Result Descr Refusal} {p q : Result Shape Refusal} {u v : Parsed} → x ≡ y → p ≡ q → u ≡ v → PairIs k s at n was v (record { descr = y; order = o; shape = q }) → PairIs k s at n was u (record { descr = x; order = o; shape = p })
  pair_as {x} {y} {p} {q} {u} {v} hx hp hu h =
      subst (λ (z : Result Descr Refusal). PairIs k s at n was u (record { descr = z; order = o; shape = p })) (sym hx)
      (subst (λ (z : Result Shape Refusal). PairIs k s at n was u (record { descr = y; order = o; shape = z })) (sym hp)
      (subst (λ (z : Parsed). PairIs k s at n was z (record { descr = y; order = o; shape = q })) (sym hu) h))

  -- nothing but an order
  pub pair_else : Else n → (end : Parsed) → end ≡ pos (value k s at) → PairIs k s at n was end (record { descr = d; order = o; shape = h })
  pair_else z end he = record { ended = he; found = λ v e g. by n z v (ho k v e g) }
    where
      by : (m : Name) → Else m → (v : Node) → Takes (is_the key_order (key_of m)) (OrderIs o (gives v)) (o ≡ w) → PairOf k s v m was (record { descr = d; order = o; shape = h })
      by name.Name.Descr z v t = absurd (miss (1 ∷ 3 ∷ 4 ∷ []) 0 tt z)
      by name.Name.Order z v t = record { of_descr = refl; of_order = t; of_shape = refl }
      by name.Name.Shape z v t = absurd (miss (1 ∷ 3 ∷ 4 ∷ []) 2 tt z)
      by name.Name.Extra z v t = record { of_descr = refl; of_order = t; of_shape = refl }
      by name.Name.NoString z v t = record { of_descr = refl; of_order = t; of_shape = refl }

-- ---- the pairs from the gap on, after those that gave b and x
module _ (k : ℕ) (s : List ℕ) where
  pub record Seen (b : Bool) (x : Three) (ps us : List Pair) : Type 0 where
    pub strings : Strings b ps us
    pub descr : Counts (DescrFoundIs k s) key_descr x.descr ps us
    pub order : Counts OrderIs key_order x.order ps us
    pub shape : Counts (ShapeFoundIs k s) key_shape x.shape ps us

  no_descr : DescrFoundIs k s (Err Refusal.NoKey) (refused 9)
  no_descr = found_none descr_of (λ at d. placed_descr at (totals_of d)) k s

  no_shape : ShapeFoundIs k s (Err Refusal.NoKey) (refused 9)
  no_shape = found_none shape_of (λ at ds. placed_shape at (outline_of ds)) k s

  pub seen_start : (ps : List Pair) → Seen true (record { descr = Err Refusal.NoKey; order = Err Refusal.NoKey; shape = Err Refusal.NoKey }) ps ps
  seen_start ps =
      record {
        strings = refl;
        descr = counts_start (DescrFoundIs k s) key_descr (Err Refusal.NoKey) no_descr ps;
        order = counts_start OrderIs key_order (Err Refusal.NoKey) refl ps;
        shape = counts_start (ShapeFoundIs k s) key_shape (Err Refusal.NoKey) no_shape ps;
      }

  pub seen_more : (b b' : Bool) (x y : Three) (end : Parsed) (name : Name) (p q at : ℕ) (u : Pair) (ps us : List Pair) → pair_by (value k s) s p ≡ got u q → Ends at ≡ pos (key_by (value k s) s p)
      → NameAt s p name → PairIs k s at name x end y → b' ≡ b && given (key_of name) → Seen b x ps (u ∷ us) → Seen b' y ps us
  seen_more b b' x y end name p q at u ps us hu ha hn hx hb h =
      let m = key_of_lem (value k s) s p u q hu in
      let n = hn k u.key m.0 m.1 in
      let z = hx.found u.value q (value_of (value k s) s p u q at hu ha) in
      record {
        strings = strings_more b b' name u ps us hb n.of_string h.strings;
        descr = counts_more (DescrFoundIs k s) key_descr x.descr y.descr _ u ps us n.of_descr z.of_descr h.descr;
        order = counts_more OrderIs key_order x.order y.order _ u ps us n.of_order z.of_order h.order;
        shape = counts_more (ShapeFoundIs k s) key_shape x.shape y.shape _ u ps us n.of_shape z.of_shape h.shape;
      }

  module _ (from : ℕ) where
    abbrev pub read : Got (List Pair)
    read = list_by (pair_by (value k s) s) s from 125

    -- a walk that ended so
    abbrev walk_end : Parsed → Bool → Three → Walked
    walk_end end b x = record { ended = end; strings = b; descr = x.descr; order = x.order; shape = x.shape }

    -- it ends as the pairs do, and has seen them all
    walked : (b : Bool) (x : Three) (end : Parsed) (r : Walked) → r ≡ walk_end end b x → end ≡ pos read → ((ps : List Pair) (e : ℕ) → read ≡ got ps e → Seen b x ps []) → WalkedOf k s r read
    walked b x end r hr he f =
        subst (λ (y : Walked). WalkedOf k s y read) (sym hr)
        (record {
          ended = he;
          keys = λ ps e h.
              let v = f ps e h in
              record {
                of_strings = sym (strings_end b ps v.strings);
                of_descr = counts_end (DescrFoundIs k s) key_descr x.descr ps v.descr;
                of_order = counts_end OrderIs key_order x.order ps v.order;
                of_shape = counts_end (ShapeFoundIs k s) key_shape x.shape ps v.shape;
              };
        })

    -- the brace, or a stray byte
    pub walked_end : (b : Bool) (x : Three) (g : Gap) (end : Parsed) (r : Walked) → Turn (pair_by (value k s) s) s 125 from g → Goes (pair_by (value k s) s) s 125 from (Seen b x) g → OneOf (0 ∷ 2 ∷ []) (tag_of gap.the_type g) → end ≡ ended_at g → r ≡ walk_end end b x → WalkedOf k s r read
    walked_end b x g end r t w o he hr =
        walked b x end r hr (turn_end (pair_by (value k s) s) s 125 from g end t he o)
        (λ ps e h. goes_end (pair_by (value k s) s) s 125 from (Seen b x) g w o ps e (subst (RowGot (pair_by (value k s) s) s 125 (gap_at s from 125)) h (row_list (pair_by (value k s) s) s 125 from)))

    -- a pair with a fault
    pub walked_stop : (b : Bool) (x : Three) (g : Gap) (p : ℕ) (end : Parsed) (r : Walked) → Turn (pair_by (value k s) s) s 125 from g → g ≡ Item p → end ≡ pos (pair_by (value k s) s p) → OneOf (1 ∷ 2 ∷ []) (tag_of the_type end) → r ≡ walk_end end b x → WalkedOf k s r read
    walked_stop b x g p end r t hg he o hr =
        let h = turn_stop (pair_by (value k s) s) s 125 from g p end t hg he o in
        walked b x end r hr h (λ ps e z. absurd (subst Stops (h ∙ ap pos z) (stops end o)))

-- ---- the dict
module _ (k : ℕ) (s : List ℕ) (at : ℕ) (c : ValueKind) (hk : c ≡ kind_of (byte_at s at)) where
  -- what is said of the keys of what was read
  abbrev KeysOfGot : Walked → Got Node → Type 0
  KeysOfGot r g = KeysAt k s r (keyed_at g) (λ w. node_for w g)

  pub dict_walked : c ≡ Curly → (r : Walked) → WalkedOf k s r (list_by (pair_by (value k s) s) s (at + 1) 125) → r.ended ≡ pos (value (suc k) s at)
  dict_walked z r h = h.ended ∙ sym (pos_with _ (list_by (pair_by (value k s) s) s (at + 1) 125)) ∙ ap pos (sym (dict_at k s at c hk z))

  pub dict_keys : c ≡ Curly → (r : Walked) → WalkedOf k s r (list_by (pair_by (value k s) s) s (at + 1) 125) → (n : Node) (e : ℕ) → value (suc k) s at ≡ got n e → KeysOfGot r (value (suc k) s at)
  unfolding with forget
  dict_keys z r h n e hv =
      subst (KeysOfGot r) (sym (dict_at k s at c hk z)) (go (list_by (pair_by (value k s) s) s (at + 1) 125) refl (sym (dict_at k s at c hk z) ∙ hv))
    where
      go : (g : Got (List Pair)) → list_by (pair_by (value k s) s) s (at + 1) 125 ≡ g → with (λ e ps. dict (span at e) (pairs ps)) g ≡ got n e → KeysOfGot r (with (λ e ps. dict (span at e) (pairs ps)) g)
      go (got ps q) hg hw = h.keys ps q hg
      go (fault p) hg hw = absurd (let z : ◌≡◌ {A = ℕ} 0 1 = cc in omega arith)
      go (deep p) hg hw = absurd (let z : ◌≡◌ {A = ℕ} 0 1 = cc in omega arith)

  -- another value has no keys
  pub no_dict : NoCurly c → (r : Walked) → r.strings ≡ false → r.descr ≡ Err Refusal.NoKey → r.order ≡ Err Refusal.NoKey → r.shape ≡ Err Refusal.NoKey
      → (n : Node) (e : ℕ) → value (suc k) s at ≡ got n e → KeysOfGot r (value (suc k) s at)
  no_dict z r hb hd ho hs n e h =
      let none : (w : List ℕ) → refused 9 ≡ node_for w (got n e) = λ w. sym (ap (λ (x : Outcome NodePairs). then x (last_in w (refused 9))) (no_braces (suc k) s at e n h 9 c hk z)) in
      subst (KeysOfGot r) (sym h)
      (record {
        of_strings = hb ∙ sym (ap keyed (items_in 8 n) ∙ ap (λ (x : Outcome NodePairs). keyed (each forget_pairs x)) (no_braces (suc k) s at e n h 8 c hk z));
        of_descr = subst (DescrFoundIs k s r.descr) (none key_descr) (subst (λ (x : Result Descr Refusal). DescrFoundIs k s x (refused 9)) (sym hd) (no_descr k s));
        of_order = subst (OrderIs r.order) (none key_order) (subst (λ (x : Result Order Refusal). OrderIs x (refused 9)) (sym ho) refl);
        of_shape = subst (ShapeFoundIs k s r.shape) (none key_shape) (subst (λ (x : Result Shape Refusal). ShapeFoundIs k s x (refused 9)) (sym hs) (no_shape k s));
      })
