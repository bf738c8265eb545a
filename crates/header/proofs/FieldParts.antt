-- The parts of a field, as the code finds them. A field that is one is a bracket of two or three items; each item begins where the gap before it says, and
-- the definition, taken apart by its outcomes, says what each is.
use Rattle.refusal.specs.Answers.{answer}
use Rattle.refusal.specs.declared.Refusal.{Refusal}
use Rattle.std.specs.Prelude.{Err, Ok, Result}
use Prim.Native.Nat.{ℕ, ◌+◌, ◌-◌, ◌<◌, ◌≤◌, ◌*◌}
use native.Mathlib.Omega.{arith}
use mathlib.Core.Path.{◌≡◌, refl, sym, ap, subst, ◌∙◌}
use mathlib.Core.List.{List, [], ◌∷◌, ◌++◌}
use mathlib.Core.Bool.{Bool, true, false, not}
use lib.ListN.{length, take, drop}
use lib.Seq.{take-append_seam, sets}
use lib.Dec.{eqb}
use borrow.Author.Tests.{eqb-true, eqb-false}
use types.Run.{OneOf, miss}
use denote.Enum.Declared.{tag_of}
use Rattle.counts.specs.Outcome.{Outcome, gives, refused, then, each, unless}
use Rattle.counts.proofs.Apart.{refused_gives}
use Rattle.literal_grammar.specs.Value as value
use Rattle.literal_grammar.specs.Value.{Value, Values}
use Rattle.dtype.specs.Dtype.{Dtype, size_of}
use Rattle.type_str.specs.declared.TypeStr.{TypeStr}
use Rattle.record.specs.Parts.{string_or, members_or}
use Rattle.record.specs.Dimensions.{sub_shape}
use Rattle.record.specs.Descr.{Field, arrays, two_or_three, perhaps, descr_of, field_of, named_of, typed_of}
use Rattle.literal_bytes.specs.declared.Parsed.{Parsed}
use Rattle.literal_tokens.specs.Node.{Node, nodes, string, integer, True, False, None, list, tuple, dict}
use Rattle.literal_bytes.specs.Got.{Got, got, pos}
use Rattle.literal.specs.Answer.{end_of}
use Rattle.literal.specs.Forget.{forget, forget_all}
use Rattle.literal_bytes.specs.Text.{byte_at, kind_of}
use Rattle.literal_escapes.specs.Strings.{spelled}
use Rattle.literal.specs.Literal as read
use Rattle.literal_bytes.specs.Gaps.{gap_at, then_at}
use Rattle.literal.specs.Rows.{RowOf}
use Rattle.literal_bytes.specs.declared.Gap.{Gap}
use Rattle.literal_bytes.specs.declared.Gap.TheVariants.{Shut, Item, Stray}
use Rattle.literal_bytes.specs.contracts.Gap.{the_type}
use Rattle.literal_bytes.proofs.Positions.{kind_in}
use Rattle.literal.proofs.View.{view, value_kind}
use Rattle.shape_text.specs.Answer.{dimensions_at}
use Rattle.shape_text.specs.declared.DimsStored.{DimsStored}
use Rattle.shape_text.specs.Fill.{Stored}
use Rattle.shape_text.proofs.Stored.{stored_over}
use Rattle.counts.specs.Counts.{as_bytes}
use Rattle.counts.specs.declared.Bytes.{Bytes}
use Rattle.table_fill.specs.Written.{size_over, above}
use Rattle.shape_text.specs.Members.{closing_of}
use Rattle.shape_text.proofs.Held.{Bracket, bracket, no_bracket}
use Rattle.descr_field.specs.Begins.{gap_place}
use Rattle.header.specs.Filled.{name_place, name_spelled, inner_place, DueShape, Shaped, Narrow}
use Rattle.header.specs.declared.fill.DescrFilled.{DescrFilled}
use Rattle.literal.specs.Literal.{value}
use Rattle.dtype.specs.Record.{entry_width, flat, name_bytes_of, names_of}
use Rattle.counts.specs.Number.{capped}
use Rattle.dtype.specs.Entries.{entries_of}

-- the value at `at` is a field
pub record OneField (k : ℕ) (s : List ℕ) (at : ℕ) (n : Node) (e : ℕ) (f : Field) : Type 0 where
  pub there : value k s at ≡ got n e
  pub is : field_of (forget n) ≡ gives f

-- the value at `at` is a field that gives f, and there is room for f
pub record DueField (k : ℕ) (s : List ℕ) (at entry : ℕ) (table : List ℕ) (byte : ℕ) (names : List ℕ) (n : Node) (e : ℕ) (f : Field) : Type 0 where
  pub one : OneField k s at n e f
  pub narrow : Narrow f.type
  pub room : entry_width * (entry + entries_of f.type) ≤ length table
  pub name_room : byte + (length f.name + name_bytes_of f.type) ≤ length names

pub record FilledField (e entry up byte : ℕ) (f : Field) (table names table' names' : List ℕ) (r : DescrFilled) : Type 0 where
  pub ends : r.end ≡ e
  pub next : r.entry ≡ entry + entries_of f.type
  pub next_name : r.byte ≡ byte + (length f.name + name_bytes_of f.type)
  pub sized : r.size.0 ≡ capped (size_of f.type)
  pub table_after : table' ≡ sets table (entry_width * entry) (flat f.type entry up (length f.name) [])
  pub names_after : names' ≡ sets names byte (f.name ++ names_of f.type [])

-- an answer that means a type is that type
pub read_back : (r : Result TypeStr Refusal) (t : TypeStr) → answer r ≡ gives t → r ≡ Ok t
read_back (Ok u) t h = let z : u ≡ t = cc in ap Ok z
read_back (Err why) t h = refused_gives h

-- ---- rows
module _ {A : Type 0} (rd : ℕ → Got A) (s : List ℕ) (close : ℕ) where
  pub row_head : (v : A) (vs : List A) (g : Gap) (e : ℕ) → RowOf rd s close (v ∷ vs) g e → (q : ℕ) × (rd (gap_place g) ≡ got v q) × RowOf rd s close vs (then_at s q close) e
  row_head v vs (Shut p) e h = absurd h
  row_head v vs (Item p) e h = h
  row_head v vs (Stray p) e h = absurd h

  pub row_last : (g : Gap) (e : ℕ) → RowOf rd s close [] g e → gap_place g ≡ e
  row_last (Shut p) e h = h
  row_last (Item p) e h = absurd h
  row_last (Stray p) e h = absurd h

  pub row_none : (vs : List A) (g : Gap) (e : ℕ) → OneOf (0 ∷ 2 ∷ []) (tag_of the_type g) → RowOf rd s close vs g e → (vs ≡ []) × (gap_place g ≡ e)
  row_none [] (Shut p) e o h = (refl, h)
  row_none (v ∷ vs) (Shut p) e o h = absurd h
  row_none vs (Item p) e o h = absurd (miss (0 ∷ 2 ∷ []) 1 tt o)
  row_none [] (Stray p) e o h = absurd h
  row_none (v ∷ vs) (Stray p) e o h = absurd h

-- ---- what was given back
named_back : (o : Outcome (List ℕ)) (p : Outcome Dtype) (f : Field) → then o (λ w. each (λ d. record { name = w; type = d }) p) ≡ gives f → (o ≡ gives f.name) × (p ≡ gives f.type)
named_back (gives w) (gives d) f h =
    let z : record { name = w; type = d } ≡ f = cc in
    (ap (λ (x : Field). gives x.name) z, ap (λ (x : Field). gives x.type) z)
named_back (gives w) (refused n) f h = refused_gives h
named_back (refused n) p f h = refused_gives h

typed_back : (o : Outcome Dtype) (p : Outcome (List ℕ)) (t : Dtype) → then o (λ d. each (λ ns. arrays ns d) p) ≡ gives t → (d : Dtype) × (ns : List ℕ) × (o ≡ gives d) × (p ≡ gives ns) × (t ≡ arrays ns d)
typed_back (gives d) (gives ns) t h = (d, ns, refl, refl, sym (let z : arrays ns d ≡ t = cc in z))
typed_back (gives d) (refused n) t h = refused_gives h
typed_back (refused n) p t h = refused_gives h

-- a field's items by their count
abbrev items_of : Values → Outcome Field
items_of vs = unless (not (two_or_three vs)) 14 (named_of vs)

field_members : (v : Value) → field_of v ≡ then (members_or 14 v) items_of
field_members (value.string w) = refl
field_members (value.integer minus n) = refl
field_members value.True = refl
field_members value.False = refl
field_members value.None = refl
field_members (value.list vs) = refl
field_members (value.tuple vs) = refl
field_members (value.dict es) = refl

pub record Items (ns : List Node) (f : Field) : Type 0 where
  pub first : Node
  pub second : Node
  pub others : List Node
  pub are : ns ≡ first ∷ second ∷ others
  pub few : length others ≤ 1
  pub named : string_or 14 (forget first) ≡ gives f.name
  pub d : Dtype
  pub dims : List ℕ
  pub is : descr_of (forget second) ≡ gives d
  pub shaped : perhaps (forget_all (nodes others)) ≡ gives dims
  pub typed : f.type ≡ arrays dims d

items_by_lem : (a b : Node) (us : List Node) (f : Field) → length us ≤ 1 → named_of (forget_all (nodes (a ∷ b ∷ us))) ≡ gives f → Items (a ∷ b ∷ us) f
unfolding forget_all forget
items_by_lem a b us f few h =
    let x = named_back (string_or 14 (forget a)) (typed_of (forget_all (nodes (b ∷ us)))) f h in
    let y = typed_back (descr_of (forget b)) (perhaps (forget_all (nodes us))) f.type x.1 in
    record { first = a; second = b; others = us; are = refl; few = few; named = x.0; d = y.0; dims = y.1; is = y.2; shaped = y.3; typed = y.4 }

items_back : (ns : List Node) (f : Field) → items_of (forget_all (nodes ns)) ≡ gives f → Items ns f
unfolding forget_all forget
items_back [] f h = refused_gives h
items_back (a ∷ []) f h = refused_gives h
items_back (a ∷ b ∷ []) f h = items_by_lem a b [] f (omega arith) h
items_back (a ∷ b ∷ c ∷ []) f h = items_by_lem a b (c ∷ []) f (omega arith) h
items_back (a ∷ b ∷ c ∷ d ∷ us) f h = refused_gives h

-- ---- the bracket
field_bracket : (k : ℕ) (s : List ℕ) (at e close : ℕ) (n : Node) (f : Field) → close ≡ closing_of (kind_of (byte_at s at)) → OneField k s at n e f → Bracket k s at n e close
field_bracket k s at e close n f hc o = subst (Bracket k s at n e) (sym hc) (go (eqb (closing_of (kind_of (byte_at s at))) 0) refl)
  where
    go : (t : Bool) → eqb (closing_of (kind_of (byte_at s at))) 0 ≡ t → Bracket k s at n e (closing_of (kind_of (byte_at s at)))
    go true z =
        let x = no_bracket k s at e n o.there 14 (kind_of (byte_at s at)) refl (eqb-true _ _ z) in
        refused_gives (sym (field_members (forget n) ∙ ap (λ (y : Outcome Values). then y items_of) x) ∙ o.is)
    go false z = bracket k s at e n o.there (kind_of (byte_at s at)) refl (eqb-false _ _ z)

field_items : (k : ℕ) (s : List ℕ) (at e close : ℕ) (n : Node) (f : Field) (b : Bracket k s at n e close) → OneField k s at n e f → Items b.held f
field_items k s at e close n f b o = items_back b.held f (sym (field_members (forget n) ∙ ap (λ (y : Outcome Values). then y items_of) (b.holds 14)) ∙ o.is)

-- ---- a name
pub name_is : (k : ℕ) (s : List ℕ) (p q : ℕ) (a : Node) (w : List ℕ) → read.value k s p ≡ got a q → string_or 14 (forget a) ≡ gives w
    → (w ≡ (spelled (byte_at s p) s (p + 1)).bytes) × (p < length s) × ((spelled (byte_at s p) s (p + 1)).ended ≡ Parsed.Value q)
unfolding forget
name_is k s p q (string x u) w hv hs =
    let hk = value_kind k s p hv in
    let v = view k s p hv hk in
    let y : u ≡ (spelled (byte_at s p) s (p + 1)).bytes = cc in
    let z : u ≡ w = cc in
    (sym z ∙ y, kind_in s p hk refl, v.1)
name_is k s p q (integer x minus n) w hv hs = refused_gives hs
name_is k s p q (True x) w hv hs = refused_gives hs
name_is k s p q (False x) w hv hs = refused_gives hs
name_is k s p q (None x) w hv hs = refused_gives hs
name_is k s p q (list x ns) w hv hs = refused_gives hs
name_is k s p q (tuple x ns) w hv hs = refused_gives hs
name_is k s p q (dict x ps) w hv hs = refused_gives hs

-- ---- the parts
-- a name; an inner descr that gives d; after it nothing or a sub-shape ns
pub record Opened (k : ℕ) (s : List ℕ) (at close e : ℕ) (f : Field) : Type 0 where
  pub deep : 0 < k
  pub inside : at < length s
  pub begins : name_place s at close < length s
  pub named : f.name ≡ (name_spelled s at close).bytes
  pub node : Node
  pub end_of_node : ℕ
  pub there : read.value (k - 1) s (inner_place s at close) ≡ got node end_of_node
  pub d : Dtype
  pub is : descr_of (forget node) ≡ gives d
  pub ns : List ℕ
  pub us : List Node
  pub row : RowOf (read.value (k - 1) s) s close us (then_at s end_of_node close) e
  pub few : length us ≤ 1
  pub shaped : perhaps (forget_all (nodes us)) ≡ gives ns
  pub typed : f.type ≡ arrays ns d

pub opened : (k : ℕ) (s : List ℕ) (at close : ℕ) → close ≡ closing_of (kind_of (byte_at s at)) → (n : Node) (e : ℕ) (f : Field) → OneField k s at n e f → Opened k s at close e f
opened k s at close hc n e f o =
    let rd = read.value (k - 1) s in
    let br = field_bracket k s at e close n f hc o in
    let i = field_items k s at e close n f br o in
    let x = row_head rd s close i.first (i.second ∷ i.others) (gap_at s (at + 1) close) e (subst (λ (l : List Node). RowOf rd s close l (gap_at s (at + 1) close) e) i.are br.row) in
    let nm = name_is (k - 1) s (name_place s at close) x.0 i.first f.name x.1 i.named in
    let e1 = end_of (name_spelled s at close).ended in
    let q1 : x.0 ≡ e1 = sym (ap end_of nm.2) in
    let y = row_head rd s close i.second i.others (then_at s e1 close) e (subst (λ (q : ℕ). RowOf rd s close (i.second ∷ i.others) (then_at s q close) e) q1 x.2) in
    record {
      deep = br.room;
      inside = br.inside;
      begins = nm.1;
      named = nm.0;
      node = i.second;
      end_of_node = y.0;
      there = y.1;
      d = i.d;
      is = i.is;
      ns = i.dims;
      us = i.others;
      row = y.2;
      few = i.few;
      shaped = i.shaped;
      typed = i.typed;
    }

-- ---- after the inner descr
module _ (k : ℕ) (s : List ℕ) (close : ℕ) (table : List ℕ) (r : DescrFilled) (e : ℕ) (ns : List ℕ) (h : DueShape k s close table r e ns) (g : Gap) (hg : g ≡ then_at s r.end close) where
  row_here : RowOf (read.value k s) s close h.after.us g e
  row_here = subst (λ (x : Gap). RowOf (read.value k s) s close h.after.us x e) (sym hg) h.after.row

  -- no sub-shape
  pub shaped_none : (entry up m end : ℕ) → OneOf (0 ∷ 2 ∷ []) (tag_of the_type g) → end ≡ gap_place g → Shaped e entry up m ns table table r (record { end = end; entry = r.entry; byte = r.byte; size = r.size })
  unfolding forget_all
  shaped_none entry up m end o he =
      let z = row_none (read.value k s) s close h.after.us g e o row_here in
      let q : gives [] ≡ gives ns = sym (ap (λ (l : List Node). perhaps (forget_all (nodes l))) z.0) ∙ h.after.shaped in
      let none : [] ≡ ns = cc in
      let next : r.entry ≡ r.entry + 0 = omega arith in
      subst (λ (l : List ℕ). Shaped e entry up m l table table r (record { end = end; entry = r.entry; byte = r.byte; size = r.size })) none
      (record { ends = he ∙ z.1; next = next; next_name = refl; sized = refl; table_after = refl })

  -- a sub-shape
  module _ (p : ℕ) (hp : g ≡ Item p) where
    third : (us : List Node) → length us ≤ 1 → RowOf (read.value k s) s close us (Item p) e → (c : Node) × (q : ℕ) × (us ≡ c ∷ []) × (read.value k s p ≡ got c q) × RowOf (read.value k s) s close [] (then_at s q close) e
    third [] few w = absurd w
    third (c ∷ []) few w = (c, w.0, refl, w.1, w.2)
    third (c ∷ u ∷ us) few w = absurd (omega arith)

    third_here : (c : Node) × (q : ℕ) × (h.after.us ≡ c ∷ []) × (read.value k s p ≡ got c q) × RowOf (read.value k s) s close [] (then_at s q close) e
    third_here = third h.after.us h.after.few (subst (λ (x : Gap). RowOf (read.value k s) s close h.after.us x e) hp row_here)

    pub shape_there : dimensions_at (read.value k s p) ≡ gives ns
    unfolding forget_all
    shape_there =
        let t = third_here in
        let sh : sub_shape (forget t.0) ≡ gives ns = sym (ap (λ (l : List Node). perhaps (forget_all (nodes l))) t.2) ∙ h.after.shaped in
        ap dimensions_at t.3 ∙ sh

    pub shape_ends : (end1 end : ℕ) → end1 ≡ end_of (pos (read.value k s p)) → end ≡ gap_place (then_at s end1 close) → end ≡ e
    shape_ends end1 end h1 he =
        let t = third_here in
        let q : end1 ≡ t.1 = h1 ∙ ap (λ (x : Got Node). end_of (pos x)) t.3 in
        he ∙ ap (λ (x : ℕ). gap_place (then_at s x close)) q ∙ row_last (read.value k s) s close (then_at s t.1 close) e t.4

    pub shaped_some : (entry up m rank end1 end : ℕ) (size : Bytes) (front table' : List ℕ) → rank ≡ length ns → front ≡ ns → end1 ≡ end_of (pos (read.value k s p)) → end ≡ gap_place (then_at s end1 close)
        → size ≡ as_bytes (size_over front r.size.0) → table' ≡ above front entry up m r.entry r.size.0 table → Shaped e entry up m ns table table' r (record { end = end; entry = r.entry + rank; byte = r.byte; size = size })
    shaped_some entry up m rank end1 end size front table' hr hf h1 he hs ht =
        record {
          ends = shape_ends end1 end h1 he;
          next = ap (λ (x : ℕ). r.entry + x) hr;
          next_name = refl;
          sized = ap (λ (b : Bytes). b.0) hs ∙ ap (λ (l : List ℕ). size_over l r.size.0) hf;
          table_after = ht ∙ ap (λ (l : List ℕ). above l entry up m r.entry r.size.0 table) hf;
        }

-- the dimensions at the front of a buffer that has room for them
pub shape_front : (ns : List ℕ) (g : Gap) (zeros out : List ℕ) (r : DimsStored) (rank : ℕ) → Stored ns g zeros r out → length ns ≤ length zeros → rank ≡ r.rank → take rank out ≡ ns
shape_front ns g zeros out r rank st le hr =
    ap (λ (i : ℕ). take i out) (hr ∙ st.counted) ∙ ap (take (length ns)) (st.out_after ∙ stored_over ns zeros le) ∙ take-append_seam ns (drop (length ns) zeros)
