-- The order of judgement, 5 to 22: the whole text, its value, the three keys one after the other, and the limits. Each part that was read is followed by the next, and the first
-- that was refused decides.
use Rattle.refusal.specs.Answers.{answer}
use Rattle.judge.specs.declared.FoundRecord.{FoundRecord}
use Rattle.std.specs.Prelude.{Err, Ok, Result}
use Prim.Native.Nat.{ℕ}
use native.Mathlib.Omega.{arith}
use mathlib.Core.Path.{◌≡◌, refl, sym, ap, subst, ◌∙◌}
use mathlib.Core.List.{List}
use mathlib.Core.Bool.{Bool, true, false}
use lib.Dec.{eqb}
use lib.ListN.{length}
use Rattle.counts.specs.Outcome.{Outcome, gives, refused, then, each}
use Rattle.counts.proofs.Alike.{true_false}
use Rattle.literal_grammar.specs.Value as tree
use Rattle.literal_grammar.specs.Value.{Value, most_open}
use Rattle.refusal.specs.declared.Refusal.{Refusal}
use Rattle.refusal.specs.Numbers.{number_of}
use Rattle.utf8.specs.Decode.{utf8}
use Rattle.dtype.specs.declared.Order.{Order}
use Rattle.dtype.specs.Dtype.{Dtype}
use Rattle.dtype.specs.Record.{Record}
use Rattle.dtype.specs.Limits.{limited}
use Rattle.record.specs.Parts.{items_or}
use Rattle.record.specs.Dict.{key_order, key_shape, key_descr, needed}
use Rattle.record.specs.Dimensions.{shape_of}
use Rattle.record.specs.Descr.{descr_of}
use Rattle.record.specs.FromValue.{declared_order, record_from, record_of_value}
use Rattle.record.specs.Header.{Keeps, value_read, record_in}
use Rattle.literal_tokens.specs.Node.{Node}
use Rattle.literal_bytes.specs.Got.{Got, got, fault, deep, pos}
use Rattle.literal.specs.Forget.{forget, forgot}
use Rattle.literal_bytes.specs.Text.{skip}
use Rattle.literal.specs.Literal.{value, alone, alone_at, literal_of}
use Rattle.literal_bytes.specs.declared.Parsed as parsed
use Rattle.literal.proofs.Meaning.{literal_means}
use Rattle.literal.proofs.Steps.{alone_at_lem, literal_is}
use Rattle.shape_text.specs.Answer.{value_or}
use Rattle.judge_names.specs.Answer.{OrderIs}
use Rattle.judge.specs.Pairs.{node_for, keyed, keyed_at}
use Rattle.judge.specs.Judged.{reading, JudgedIs}
use Rattle.judge.proofs.Nodes.{node_value}
use Rattle.judge.proofs.Found.{key_at}

-- the reading that is meant keeps the promise
pub reading_keeps : Keeps reading
reading_keeps s = literal_means s

-- ---- 8
-- the value of the key w in what was read, or 9
abbrev needed_at : (w : List ℕ) → Got Node → Outcome Value
needed_at w g = then (then (value_or 9 g) (items_or 9)) (needed w)

-- what comes after 8, by the keys
abbrev by_keys : (List ℕ → Outcome Value) → Outcome Record
by_keys at =
    then (then (at key_order) declared_order)
    (λ o. then (then (at key_shape) shape_of) (λ s. then (then (at key_descr) descr_of) (λ d. limited (record { dtype = d; shape = s; order = o }))))

keyed_value : (v : Value) → keyed (items_or 8 v) ≡ true → record_of_value v ≡ by_keys (λ w. then (items_or 9 v) (needed w))
unfolding record_of_value record_from
keyed_value (tree.string w) h = true_false (sym h)
keyed_value (tree.integer minus n) h = true_false (sym h)
keyed_value tree.True h = true_false (sym h)
keyed_value tree.False h = true_false (sym h)
keyed_value tree.None h = true_false (sym h)
keyed_value (tree.list vs) h = true_false (sym h)
keyed_value (tree.tuple vs) h = true_false (sym h)
keyed_value (tree.dict es) h = rw h refl

unkeyed_value : (v : Value) → keyed (items_or 8 v) ≡ false → record_of_value v ≡ refused 8
unfolding record_of_value
unkeyed_value (tree.string w) h = refl
unkeyed_value (tree.integer minus n) h = refl
unkeyed_value tree.True h = refl
unkeyed_value tree.False h = refl
unkeyed_value tree.None h = refl
unkeyed_value (tree.list vs) h = refl
unkeyed_value (tree.tuple vs) h = refl
unkeyed_value (tree.dict es) h = rw h refl

keyed_at_lem : (g : Got Node) → keyed_at g ≡ true → then (value_or 8 g) record_of_value ≡ by_keys (λ w. needed_at w g)
keyed_at_lem (got n e) h = keyed_value (forget n) h
keyed_at_lem (fault p) h = true_false (sym h)
keyed_at_lem (deep p) h = true_false (sym h)

unkeyed_at : (g : Got Node) → keyed_at g ≡ false → then (value_or 8 g) record_of_value ≡ refused 8
unkeyed_at (got n e) h = unkeyed_value (forget n) h
unkeyed_at (fault p) h = refl
unkeyed_at (deep p) h = refl

then_each : {A B C : Type 0} (f : A → B) (h : B → Outcome C) (o : Outcome A) → then (each f o) h ≡ then o (λ a. h (f a))
then_each f h (gives a) = refl
then_each f h (refused n) = refl

module _ (text : List ℕ) (at : ℕ) where
  -- the record of the value at the position
  abbrev pub record_at : Outcome Record
  record_at = then (value_or 8 (value most_open text at)) record_of_value

  pub not_dict : keyed_at (value most_open text at) ≡ false → record_at ≡ refused 8
  not_dict h = unkeyed_at (value most_open text at) h

  -- what `of` reads in the value of a key, with its place and without
  key_is : {A : Type 0} (w : List ℕ) (of : Value → Outcome A) → then (needed_at w (value most_open text at)) of ≡ key_at text at w of
  key_is w of = ap (λ (y : Outcome Value). then y of) (sym (node_value w (value most_open text at))) ∙ then_each forget of (node_for w (value most_open text at))

  -- ---- one key after the other
  abbrev after_order : Order → Outcome Record
  after_order o =
      then (then (needed_at key_shape (value most_open text at)) shape_of)
      (λ s. then (then (needed_at key_descr (value most_open text at)) descr_of) (λ d. limited (record { dtype = d; shape = s; order = o })))

  abbrev after_shape : Order → List ℕ → Outcome Record
  after_shape o s = then (then (needed_at key_descr (value most_open text at)) descr_of) (λ d. limited (record { dtype = d; shape = s; order = o }))

  module _ (all_strings : keyed_at (value most_open text at) ≡ true) where
    record_order : (x : Outcome Order) → key_at text at key_order declared_order ≡ x → record_at ≡ then x after_order
    record_order x h = keyed_at_lem (value most_open text at) all_strings ∙ ap (λ (y : Outcome Order). then y after_order) (key_is key_order declared_order ∙ h)

    pub no_order : (x : Result Order Refusal) (why : Refusal) → OrderIs x (node_for key_order (value most_open text at)) → x ≡ Err why → record_at ≡ refused (number_of why)
    no_order x why hx e = record_order (refused (number_of why)) (sym hx ∙ ap answer e)

    module _ (x : Result Order Refusal) (o : Order) (hx : OrderIs x (node_for key_order (value most_open text at))) (e : x ≡ Ok o) where
      record_shape : (y : Outcome (List ℕ)) → key_at text at key_shape shape_of ≡ y → record_at ≡ then y (after_shape o)
      record_shape y h = record_order (gives o) (sym hx ∙ ap answer e) ∙ ap (λ (z : Outcome (List ℕ)). then z (after_shape o)) (key_is key_shape shape_of ∙ h)

      pub no_shape : (n : ℕ) → key_at text at key_shape shape_of ≡ refused n → record_at ≡ refused n
      no_shape n h = record_shape (refused n) h

      module _ (s : List ℕ) (hs : key_at text at key_shape shape_of ≡ gives s) where
        record_descr : (z : Outcome Dtype) → key_at text at key_descr descr_of ≡ z → record_at ≡ then z (λ d. limited (record { dtype = d; shape = s; order = o }))
        record_descr z h = record_shape (gives s) hs ∙ ap (λ (y : Outcome Dtype). then y (λ d. limited (record { dtype = d; shape = s; order = o }))) (key_is key_descr descr_of ∙ h)

        pub no_descr : (n : ℕ) → key_at text at key_descr descr_of ≡ refused n → record_at ≡ refused n
        no_descr n h = record_descr (refused n) h

        pub with_descr : (d : Dtype) → key_at text at key_descr descr_of ≡ gives d → record_at ≡ limited (record { dtype = d; shape = s; order = o })
        with_descr d h = record_descr (gives d) h

-- ---- 5, 6, 7
pub ill_record : (s : List ℕ) → refused 5 ≡ utf8 s → record_in reading s ≡ refused 5
unfolding record_in
ill_record s h = ap (λ (o : Outcome Unit). then o (λ u. then (value_read (reading s)) record_of_value)) (sym h)

module _ (s : List ℕ) (well : gives tt ≡ utf8 s) where
  past_utf8 : record_in reading s ≡ then (value_read (forgot (literal_of s))) record_of_value
  unfolding record_in
  past_utf8 = ap (λ (o : Outcome Unit). then o (λ u. then (value_read (reading s)) record_of_value)) (sym well)

  by_fault : (g : Got Node) (p : ℕ) → parsed.Parsed.Fault p ≡ pos g → then (value_read (forgot g)) record_of_value ≡ refused 6
  by_fault (got n e) p h = absurd (let z : ◌≡◌ {A = ℕ} 0 1 = cc in omega arith)
  by_fault (fault q) p h = refl
  by_fault (deep q) p h = absurd (let z : ◌≡◌ {A = ℕ} 0 1 = cc in omega arith)

  by_deep : (g : Got Node) (p : ℕ) → parsed.Parsed.Deep p ≡ pos g → then (value_read (forgot g)) record_of_value ≡ refused 7
  by_deep (got n e) p h = absurd (let z : ◌≡◌ {A = ℕ} 0 1 = cc in omega arith)
  by_deep (fault q) p h = absurd (let z : ◌≡◌ {A = ℕ} 0 1 = cc in omega arith)
  by_deep (deep q) p h = refl

  by_value : (g : Got Node) (p : ℕ) → parsed.Parsed.Value p ≡ pos (alone s g) → then (value_read (forgot (alone s g))) record_of_value ≡ then (value_or 8 g) record_of_value
  unfolding alone
  by_value (got n q) p h = go (eqb (skip s q) (length s)) refl h
    where
      go : (b : Bool) → eqb (skip s q) (length s) ≡ b → parsed.Parsed.Value p ≡ pos {A = Node} (elim b [ true ↦ got n (length s) | false ↦ fault (skip s q) ]) → then (value_read (forgot (elim b [ true ↦ got n (length s) | false ↦ fault (skip s q) ]))) record_of_value ≡ record_of_value (forget n)
      go true e k = refl
      go false e k = absurd (let z : ◌≡◌ {A = ℕ} 0 1 = cc in omega arith)
  by_value (fault q) p h = absurd (let z : ◌≡◌ {A = ℕ} 0 1 = cc in omega arith)
  by_value (deep q) p h = absurd (let z : ◌≡◌ {A = ℕ} 0 1 = cc in omega arith)

  -- a text that ends well has a value
  got_by : (g : Got Node) (p : ℕ) → parsed.Parsed.Value p ≡ pos (alone s g) → (n : Node) × (e : ℕ) × (g ≡ got n e)
  unfolding alone
  got_by (got n e) p h = (n, e, refl)
  got_by (fault q) p h = absurd (let z : ◌≡◌ {A = ℕ} 0 1 = cc in omega arith)
  got_by (deep q) p h = absurd (let z : ◌≡◌ {A = ℕ} 0 1 = cc in omega arith)

  -- how the value ended, and then the text
  pub ended_so : (end x : parsed.Parsed) (at : ℕ) → at ≡ skip s 0 → end ≡ pos (value most_open s at) → x ≡ alone_at s end → x ≡ pos (literal_of s)
  ended_so end x at ha he hx = hx ∙ ap (alone_at s) he ∙ alone_at_lem s (value most_open s at) ∙ ap pos (literal_is s at ha)

  pub fault_record : (p : ℕ) → parsed.Parsed.Fault p ≡ pos (literal_of s) → record_in reading s ≡ refused 6
  fault_record p h = past_utf8 ∙ by_fault (literal_of s) p h

  pub deep_record : (p : ℕ) → parsed.Parsed.Deep p ≡ pos (literal_of s) → record_in reading s ≡ refused 7
  deep_record p h = past_utf8 ∙ by_deep (literal_of s) p h

  value_record : (p : ℕ) → parsed.Parsed.Value p ≡ pos (literal_of s) → record_in reading s ≡ then (value_or 8 (value most_open s (skip s 0))) record_of_value
  unfolding literal_of
  value_record p h = past_utf8 ∙ by_value (value most_open s (skip s 0)) p h

  pub value_got : (at : ℕ) (p : ℕ) → parsed.Parsed.Value p ≡ pos (literal_of s) → at ≡ skip s 0 → (n : Node) × (e : ℕ) × (value most_open s at ≡ got n e)
  unfolding literal_of
  value_got at p h e = got_by (value most_open s at) p (h ∙ ap (λ (x : ℕ). pos (alone s (value most_open s x))) (sym e))

  pub value_judged : (at : ℕ) (r : Result FoundRecord Refusal) (p : ℕ) → parsed.Parsed.Value p ≡ pos (literal_of s) → at ≡ skip s 0 → JudgedIs s at r (record_at s at) → JudgedIs s (skip s 0) r (record_in reading s)
  value_judged at r p h e k = subst (JudgedIs s (skip s 0) r) (sym (value_record p h)) (subst (λ (x : ℕ). JudgedIs s x r (record_at s x)) e k)
