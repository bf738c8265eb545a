-- Storing the members of a shape. What is kept: the numbers that are left to put, put on the buffer as it is, give the due buffer. Then the shape around
-- them, whose dimensions these are all, and the buffer where there is room for all.
use Rattle.refusal.specs.Answers.{answer}
use Rattle.std.specs.Prelude.{Err, Ok, Result}
use Prim.Native.Nat.{ℕ, zero, suc, ◌+◌, ◌-◌, ◌<◌, ◌≤◌}
use native.Mathlib.Nat.{not-suc-le-zero}
use native.Mathlib.Omega.{arith}
use native.Mathlib.Numerals.{add-one}
use mathlib.Core.Path.{◌≡◌, refl, sym, ap, subst, ◌∙◌}
use mathlib.Core.List.{List, [], ◌∷◌}
use mathlib.Core.Bool.{Bool, true, false, ◌||◌}
use lib.ListN.{length, set, length-set}
use lib.Seq.{sets, sets-eq}
use lib.Dec.{eqb, lit<}
use borrow.Author.Tests.{eqb-true, eqb-false, ne_eqb}
use types.Run.{OneOf, miss}
use denote.Enum.Declared.{tag_of}
use Rattle.counts.specs.Outcome.{Outcome, gives, refused, then, each}
use Rattle.literal_grammar.specs.Value.{Values}
use Rattle.counts.proofs.Alike.{or_none}
use Rattle.record.specs.Parts.{members_or}
use Rattle.record.specs.Dimensions.{dimension, dimensions}
use Rattle.counts.specs.Lists.{at_front}
use Rattle.literal_tokens.specs.Node.{Node}
use Rattle.literal_bytes.specs.Got.{Got, got, fault, deep, pos}
use Rattle.literal.specs.Answer.{end_of}
use Rattle.literal.specs.Forget.{forget, forget_all}
use Rattle.literal_bytes.specs.Text.{byte_at, kind_of}
use Rattle.literal.specs.Literal.{value}
use Rattle.literal_bytes.specs.Gaps.{gap_at, then_at}
use Rattle.literal.specs.Rows.{RowOf}
use Rattle.literal_bytes.specs.declared.ValueKind.{ValueKind}
use Rattle.literal_bytes.specs.declared.ValueKind.TheVariants.{Square, Round, Curly, Quote, Minus, Digit, TrueWord, FalseWord, NoneWord, Other}
use Rattle.literal_bytes.specs.declared.Parsed.{Parsed}
use Rattle.literal_bytes.specs.declared.Parsed.TheVariants.{Value}
use Rattle.literal_bytes.specs.declared.Gap.{Gap}
use Rattle.literal_bytes.specs.declared.Gap.TheVariants.{Shut, Item, Stray}
use Rattle.literal_bytes.specs.contracts.Parsed as parsed
use Rattle.literal_bytes.proofs.Positions.{kind_in}
use Rattle.literal_bytes.specs.contracts.Gap as gap
use Rattle.literal.proofs.Ends.{Ahead, value_ahead}
use Rattle.literal_bytes.proofs.GapEnds.{GapAhead, then_ahead}
use Rattle.literal_bytes.proofs.Ends.{Stops, stops}
use Rattle.literal.proofs.Steps.{thing, gap_left, gap_enough, gap_falls, read_ahead}
use Rattle.refusal.specs.declared.Refusal.{Refusal}
use Rattle.refusal.specs.Numbers.{number_of}
use Rattle.shape_text.specs.Members.{closing_of, SizeAt}
use Rattle.shape_text.specs.Answer.{dimensions_at}
use Rattle.shape_text.specs.Walk.{dimensions_of}
use Rattle.shape_text.specs.declared.DimsStored.{DimsStored}
use Rattle.shape_text.specs.Fill.{front_from, front_in, front_at, stop_from, stop_in, stop_at, Stored}
use Rattle.shape_text.proofs.Goes.{Counted, counted_none, counted_at, counted_more}
use Rattle.shape_text.proofs.Held.{Bracket, bracket, no_bracket}

-- what follows of a value that is a shape (`stored_shape`, proofs/Stored.antt)
abbrev pub FillsShape : Got Node → (out : List ℕ) (r : DimsStored) (out' : List ℕ) → Type 0
FillsShape g out r out' = (ns : List ℕ) → dimensions_at g ≡ gives ns → Stored ns (Shut (end_of (pos g))) out r out'

-- ---- the loop
module _ (k : ℕ) (s : List ℕ) (close : ℕ) where
  front_end : (m : ℕ) (g : Gap) → OneOf (0 ∷ 2 ∷ []) (tag_of gap.the_type g) → front_from (value k s) s close m g ≡ []
  unfolding front_from
  front_end zero g o = refl
  front_end (suc m) (Shut e) o = refl
  front_end (suc m) (Stray p) o = refl
  front_end (suc m) (Item p) o = absurd (miss (0 ∷ 2 ∷ []) 1 tt o)

  front_stop : (m p : ℕ) (g : Got Node) → value k s p ≡ g → Stops (pos g) → front_from (value k s) s close m (Item p) ≡ []
  unfolding front_from
  front_stop zero p g h st = refl
  front_stop (suc m) p (got v q) h st = absurd st
  front_stop (suc m) p (fault e) h st = rw (front_from, h)
  front_stop (suc m) p (deep e) h st = rw (front_from, h)

  front_none : (m p q j : ℕ) (v : Node) → value k s p ≡ got v q → dimension (forget v) ≡ refused j → front_from (value k s) s close m (Item p) ≡ []
  unfolding front_from
  front_none zero p q j v h d = refl
  front_none (suc m) p q j v h d = rw (front_from, h, d)

  front_more : (m p q n : ℕ) (v : Node) → value k s p ≡ got v q → dimension (forget v) ≡ gives n → front_from (value k s) s close (suc m) (Item p) ≡ n ∷ front_from (value k s) s close m (then_at s q close)
  unfolding front_from
  front_more m p q n v h d = rw (front_from, h, d)

  -- the gap after them
  stop_end : (m : ℕ) (g : Gap) → OneOf (0 ∷ 2 ∷ []) (tag_of gap.the_type g) → stop_from (value k s) s close m g ≡ g
  unfolding stop_from
  stop_end zero g o = refl
  stop_end (suc m) (Shut e) o = refl
  stop_end (suc m) (Stray p) o = refl
  stop_end (suc m) (Item p) o = absurd (miss (0 ∷ 2 ∷ []) 1 tt o)

  stop_stop : (m p : ℕ) (g : Got Node) → value k s p ≡ g → Stops (pos g) → stop_from (value k s) s close m (Item p) ≡ Item p
  unfolding stop_from
  stop_stop zero p g h st = refl
  stop_stop (suc m) p (got v q) h st = absurd st
  stop_stop (suc m) p (fault e) h st = rw (stop_from, h)
  stop_stop (suc m) p (deep e) h st = rw (stop_from, h)

  stop_none : (m p q j : ℕ) (v : Node) → value k s p ≡ got v q → dimension (forget v) ≡ refused j → stop_from (value k s) s close m (Item p) ≡ Item p
  unfolding stop_from
  stop_none zero p q j v h d = refl
  stop_none (suc m) p q j v h d = rw (stop_from, h, d)

  stop_more : (m p q n : ℕ) (v : Node) → value k s p ≡ got v q → dimension (forget v) ≡ gives n → stop_from (value k s) s close (suc m) (Item p) ≡ stop_from (value k s) s close m (then_at s q close)
  unfolding stop_from
  stop_more m p q n v h d = rw (stop_from, h, d)

-- i numbers are put, `out` was `old` at first, and the numbers from the gap on are left
pub record Filling (k : ℕ) (s : List ℕ) (close from : ℕ) (old out : List ℕ) (g : Gap) (i : ℕ) : Type 0 where
  pub bound : ℕ
  pub enough : gap_left (length s) g < bound
  pub left : length (front_in k s from close) ≡ i + length (front_from (value k s) s close bound g)
  pub puts : sets out i (front_from (value k s) s close bound g) ≡ sets old 0 (front_in k s from close)
  pub stops : stop_from (value k s) s close bound g ≡ stop_in k s from close
  pub counted : Counted i g
  pub same : length out ≡ length old

pub filling_start : (k : ℕ) (s : List ℕ) (close from : ℕ) (old : List ℕ) (g : Gap) → g ≡ gap_at s from close → Filling k s close from old old g 0
filling_start k s close from old g hg =
    let e : front_from (value k s) s close (length s + 2) g ≡ front_in k s from close = ap (front_from (value k s) s close (length s + 2)) hg in
    record { bound = length s + 2; enough = gap_enough (length s) g; left = omega (arith, ap length e); puts = ap (sets old 0) e; stops = ap (stop_from (value k s) s close (length s + 2)) hg; counted = counted_none g; same = refl }

module _ (k : ℕ) (s : List ℕ) (close from : ℕ) (old out : List ℕ) (g : Gap) (i : ℕ) (w : Filling k s close from old out g i) where
  none_left : (x : Gap) → front_from (value k s) s close w.bound g ≡ [] → stop_from (value k s) s close w.bound g ≡ x → Stored (front_in k s from close) (stop_in k s from close) old (record { rank = i; stop = x }) out
  none_left x e z = record { counted = omega (arith, w.left, ap length e); stopped = sym z ∙ w.stops; out_after = ap (sets out i) (sym e) ∙ w.puts }

  pub filling_end : OneOf (0 ∷ 2 ∷ []) (tag_of gap.the_type g) → Stored (front_in k s from close) (stop_in k s from close) old (record { rank = i; stop = g }) out
  filling_end o = none_left g (front_end k s close w.bound g o) (stop_end k s close w.bound g o)

  at_item : (p : ℕ) → g ≡ Item p → (front_from (value k s) s close w.bound (Item p) ≡ []) × (stop_from (value k s) s close w.bound (Item p) ≡ Item p) → Stored (front_in k s from close) (stop_in k s from close) old (record { rank = i; stop = Item p }) out
  at_item p hp e = none_left (Item p) (ap (front_from (value k s) s close w.bound) hp ∙ e.0) (ap (stop_from (value k s) s close w.bound) hp ∙ e.1)

  module _ (p : ℕ) (v : Parsed) (hp : g ≡ Item p) (hv : v ≡ pos (value k s p)) where
    pub filling_stop : OneOf (1 ∷ 2 ∷ []) (tag_of parsed.the_type v) → Stored (front_in k s from close) (stop_in k s from close) old (record { rank = i; stop = Item p }) out
    filling_stop o =
        let st = subst Stops hv (stops v o) in
        at_item p hp (front_stop k s close w.bound p (value k s p) refl st, stop_stop k s close w.bound p (value k s p) refl st)

    module _ (d : Result ℕ Refusal) (hd : SizeAt s p d) (q : ℕ) (hq : v ≡ Value q) where
      there : (n : Node) × (value k s p ≡ got n q)
      there = thing (value k s p) q (sym hq ∙ hv)

      size : answer d ≡ dimension (forget there.0)
      size = hd k there.0 q there.1

      refused_here : (j : ℕ) → dimension (forget there.0) ≡ refused j → (front_from (value k s) s close w.bound (Item p) ≡ []) × (stop_from (value k s) s close w.bound (Item p) ≡ Item p)
      refused_here j e = (front_none k s close w.bound p q j there.0 there.1 e, stop_none k s close w.bound p q j there.0 there.1 e)

      pub filling_none : (why : Refusal) → d ≡ Err why → Stored (front_in k s from close) (stop_in k s from close) old (record { rank = i; stop = Item p }) out
      filling_none why h = at_item p hp (refused_here (number_of why) (sym size ∙ ap answer h))

      pub filling_count : (i ≤ p) × (p < q) × (q ≤ length s)
      filling_count =
          let a = read_ahead p (length s) q v _ hv hq (value_ahead k s p) in
          (counted_at i p g w.counted hp, a.0, a.1)

      module _ (small : close < 256) (out' : List ℕ) (g' : Gap) (n : ℕ) (hn : d ≡ Ok n) (ho : out' ≡ set out i n) (hg : g' ≡ then_at s q close) where
        after : GapAhead q (length s) g'
        after = subst (λ (x : Gap). GapAhead q (length s) x) (sym hg) (then_ahead s q close small)

        more_by : (b : ℕ) → gap_left (length s) g < b → length (front_in k s from close) ≡ i + length (front_from (value k s) s close b g) → sets out i (front_from (value k s) s close b g) ≡ sets old 0 (front_in k s from close)
            → stop_from (value k s) s close b g ≡ stop_in k s from close → Filling k s close from old out' g' (i + 1)
        more_by zero lt hl hs hz = absurd (not-suc-le-zero lt)
        more_by (suc b) lt hl hs hz =
            let a = filling_count in
            let e : front_from (value k s) s close (suc b) g ≡ n ∷ front_from (value k s) s close b g' =
            ap (front_from (value k s) s close (suc b)) hp ∙ front_more k s close b p q n there.0 there.1 (sym size ∙ ap answer hn) ∙ ap (λ (x : Gap). n ∷ front_from (value k s) s close b x) (sym hg) in
            let z : stop_from (value k s) s close (suc b) g ≡ stop_from (value k s) s close b g' =
            ap (stop_from (value k s) s close (suc b)) hp ∙ stop_more k s close b p q n there.0 there.1 (sym size ∙ ap answer hn) ∙ ap (stop_from (value k s) s close b) (sym hg) in
            let falls = gap_falls p q (length s) g' a.1 a.2 after in
            record {
              bound = b;
              enough = omega (arith, ap (gap_left (length s)) hp);
              left = omega (arith, ap length e);
              puts = rw (add-one i, ho) (ap (sets out i) (sym e) ∙ hs);
              stops = sym z ∙ hz;
              counted = counted_more i (i + 1) p q (length s) g' a.0 (omega arith) a.1 after;
              same = ap length ho ∙ length-set out i n ∙ w.same;
            }

        pub filling_more : Filling k s close from old out' g' (i + 1)
        filling_more = more_by w.bound w.enough w.left w.puts w.stops

-- ---- the shape
pub record ShapeAt (k : ℕ) (s : List ℕ) (at close : ℕ) (ns : List ℕ) : Type 0 where
  pub node : Node
  pub end : ℕ
  pub there : value k s at ≡ got node end
  pub is : Bracket k s at node end close
  pub gives_them : dimensions_of is.held ≡ gives ns
  pub some : eqb close 0 ≡ false

module _ (k : ℕ) (s : List ℕ) (at : ℕ) (ns : List ℕ) (c : ValueKind) (hk : c ≡ kind_of (byte_at s at)) where
  bracket_or : (n : Node) (e : ℕ) → value k s at ≡ got n e → then (members_or 11 (forget n)) dimensions ≡ gives ns → (t : Bool) → eqb (closing_of c) 0 ≡ t → ShapeAt k s at (closing_of c) ns
  bracket_or n e hv h true z =
      let x = no_bracket k s at e n hv 11 c (sym hk) (eqb-true _ _ z) in
      let y : refused 11 ≡ gives ns = sym (ap (λ (o : Outcome Values). then o dimensions) x) ∙ h in
      absurd (let z : ◌≡◌ {A = ℕ} 0 1 = cc in omega arith)
  bracket_or n e hv h false z =
      let b = bracket k s at e n hv c (sym hk) (eqb-false _ _ z) in
      record { node = n; end = e; there = hv; is = b; gives_them = sym (ap (λ (o : Outcome Values). then o dimensions) (b.holds 11)) ∙ h; some = z }

  read_or : (g : Got Node) → value k s at ≡ g → dimensions_at g ≡ gives ns → ShapeAt k s at (closing_of c) ns
  read_or (got n e) hv h = bracket_or n e hv h (eqb (closing_of c) 0) refl
  read_or (fault p) hv h = absurd (let z : ◌≡◌ {A = ℕ} 0 1 = cc in omega arith)
  read_or (deep p) hv h = absurd (let z : ◌≡◌ {A = ℕ} 0 1 = cc in omega arith)

  pub shape_at : (close : ℕ) → close ≡ closing_of c → dimensions_at (value k s at) ≡ gives ns → ShapeAt k s at close ns
  shape_at close hc h = subst (λ (x : ℕ). ShapeAt k s at x ns) (sym hc) (read_or (value k s at) refl h)

-- ---- whether a list or tuple may begin at the position
inside_by : (s : List ℕ) (at : ℕ) (c : ValueKind) → kind_of (byte_at s at) ≡ c → (closing_of c ≡ 0 → ⊥) → at < length s
inside_by s at Square h z = kind_in s at h refl
inside_by s at Round h z = kind_in s at h refl
inside_by s at Curly h z = absurd (z refl)
inside_by s at Quote h z = absurd (z refl)
inside_by s at Minus h z = absurd (z refl)
inside_by s at Digit h z = absurd (z refl)
inside_by s at TrueWord h z = absurd (z refl)
inside_by s at FalseWord h z = absurd (z refl)
inside_by s at NoneWord h z = absurd (z refl)
inside_by s at Other h z = absurd (z refl)

module _ (s : List ℕ) (at close : ℕ) (hc : close ≡ closing_of (kind_of (byte_at s at))) where
  pub front_nothing : (k : ℕ) → (eqb close 0 || eqb k 0) ≡ true → ([] ≡ front_at k s at) × (Stray at ≡ stop_at k s at)
  unfolding front_at stop_at
  front_nothing k h =
      let z : (eqb (closing_of (kind_of (byte_at s at))) 0 || eqb k 0) ≡ true = ap (λ (x : ℕ). eqb x 0 || eqb k 0) (sym hc) ∙ h in
      (rw (front_at, z), rw (stop_at, z))

  pub front_some : (k : ℕ) → (eqb close 0 || eqb k 0) ≡ false → (0 < k) × (at < length s) × (front_in (k - 1) s (at + 1) close ≡ front_at k s at) × (stop_in (k - 1) s (at + 1) close ≡ stop_at k s at)
  unfolding front_at stop_at
  front_some k h =
      let o = or_none (eqb close 0) (eqb k 0) h in
      let z : eqb (closing_of (kind_of (byte_at s at))) 0 ≡ false = ap (λ (x : ℕ). eqb x 0) (sym hc) ∙ o.0 in
      let n : k ≡ 0 → ⊥ = eqb-false k 0 o.1 in
      (omega (arith, n), inside_by s at (kind_of (byte_at s at)) refl (eqb-false _ _ z), rw (front_at, z, o.1, hc), rw (stop_at, z, o.1, hc))

-- ---- of a shape these are all its dimensions
parts : (d : Outcome ℕ) (ds : Outcome (List ℕ)) (ms : List ℕ) → then d (λ n. each (λ ns. n ∷ ns) ds) ≡ gives ms
    → (n : ℕ) × (ts : List ℕ) × (d ≡ gives n) × (ds ≡ gives ts) × (ms ≡ n ∷ ts)
parts (gives n) (gives ts) ms h = (n, ts, refl, refl, (let z : ms ≡ n ∷ ts = cc in z))
parts (gives n) (refused m) ms h = absurd (let z : ◌≡◌ {A = ℕ} 0 1 = cc in omega arith)
parts (refused m) ds ms h = absurd (let z : ◌≡◌ {A = ℕ} 0 1 = cc in omega arith)

module _ (k : ℕ) (s : List ℕ) (close : ℕ) (small : close < 256) where
  front_row : (m : ℕ) (g : Gap) (vs : List Node) (e : ℕ) (ns : List ℕ) → gap_left (length s) g < m → RowOf (value k s) s close vs g e → dimensions_of vs ≡ gives ns → front_from (value k s) s close m g ≡ ns
  unfolding front_from forget forget_all
  front_row zero g vs e ns lt h d = absurd (not-suc-le-zero lt)
  front_row (suc m) (Shut p) [] e ns lt h d = let z : [] ≡ ns = cc in z
  front_row (suc m) (Shut p) (v ∷ vs) e ns lt h d = absurd h
  front_row (suc m) (Stray p) [] e ns lt h d = absurd h
  front_row (suc m) (Stray p) (v ∷ vs) e ns lt h d = absurd h
  front_row (suc m) (Item p) [] e ns lt h d = absurd h
  front_row (suc m) (Item p) (v ∷ vs) e ns lt h d =
      let q = h.0 in
      let x = parts (dimension (forget v)) (dimensions_of vs) ns d in
      let ahead : (p < q) × (q ≤ length s) = subst (λ (g : Got Node). Ahead p (length s) (pos g)) h.1 (value_ahead k s p) in
      let falls = gap_falls p q (length s) (then_at s q close) ahead.0 ahead.1 (then_ahead s q close small) in
      let ih = front_row m (then_at s q close) vs e x.1 (omega arith) h.2 x.3 in
      front_more k s close m p q x.0 v h.1 x.2 ∙ ap (λ (l : List ℕ). x.0 ∷ l) ih ∙ sym x.4

  stop_row : (m : ℕ) (g : Gap) (vs : List Node) (e : ℕ) (ns : List ℕ) → gap_left (length s) g < m → RowOf (value k s) s close vs g e → dimensions_of vs ≡ gives ns → stop_from (value k s) s close m g ≡ Shut e
  unfolding stop_from forget forget_all
  stop_row zero g vs e ns lt h d = absurd (not-suc-le-zero lt)
  stop_row (suc m) (Shut p) [] e ns lt h d = ap Shut h
  stop_row (suc m) (Shut p) (v ∷ vs) e ns lt h d = absurd h
  stop_row (suc m) (Stray p) [] e ns lt h d = absurd h
  stop_row (suc m) (Stray p) (v ∷ vs) e ns lt h d = absurd h
  stop_row (suc m) (Item p) [] e ns lt h d = absurd h
  stop_row (suc m) (Item p) (v ∷ vs) e ns lt h d =
      let q = h.0 in
      let x = parts (dimension (forget v)) (dimensions_of vs) ns d in
      let ahead : (p < q) × (q ≤ length s) = subst (λ (g : Got Node). Ahead p (length s) (pos g)) h.1 (value_ahead k s p) in
      let falls = gap_falls p q (length s) (then_at s q close) ahead.0 ahead.1 (then_ahead s q close small) in
      stop_more k s close m p q x.0 v h.1 x.2 ∙ stop_row m (then_at s q close) vs e x.1 (omega arith) h.2 x.3

closing_small : (c : ValueKind) → closing_of c < 256
closing_small Square = lit< tt
closing_small Round = lit< tt
closing_small Curly = lit< tt
closing_small Quote = lit< tt
closing_small Minus = lit< tt
closing_small Digit = lit< tt
closing_small TrueWord = lit< tt
closing_small FalseWord = lit< tt
closing_small NoneWord = lit< tt
closing_small Other = lit< tt

pub front_shape : (k : ℕ) (s : List ℕ) (at : ℕ) (ns : List ℕ) → dimensions_at (value k s at) ≡ gives ns → front_at k s at ≡ ns
unfolding front_at
front_shape k s at ns h =
    let c = kind_of (byte_at s at) in
    let x = shape_at k s at ns c refl (closing_of c) refl h in
    let l : 0 < k = x.is.room in
    rw (front_at, x.some, ne_eqb k 0 (λ (z : k ≡ 0). omega arith))
    (front_row (k - 1) s (closing_of c) (closing_small c) (length s + 2) (gap_at s (at + 1) (closing_of c)) x.is.held x.end ns (gap_enough (length s) (gap_at s (at + 1) (closing_of c))) x.is.row x.gives_them)

pub stop_shape : (k : ℕ) (s : List ℕ) (at : ℕ) (ns : List ℕ) → dimensions_at (value k s at) ≡ gives ns → stop_at k s at ≡ Shut (end_of (pos (value k s at)))
unfolding stop_at
stop_shape k s at ns h =
    let c = kind_of (byte_at s at) in
    let x = shape_at k s at ns c refl (closing_of c) refl h in
    let l : 0 < k = x.is.room in
    let e : stop_at k s at ≡ Shut x.end =
    rw (stop_at, x.some, ne_eqb k 0 (λ (z : k ≡ 0). omega arith))
    (stop_row (k - 1) s (closing_of c) (closing_small c) (length s + 2) (gap_at s (at + 1) (closing_of c)) x.is.held x.end ns (gap_enough (length s) (gap_at s (at + 1) (closing_of c))) x.is.row x.gives_them) in
    e ∙ sym (ap (λ (g : Got Node). Shut (end_of (pos g))) x.there)

-- the statement of storing a shape
pub stored_shape : (k : ℕ) (s : List ℕ) (at : ℕ) (out : List ℕ) (r : DimsStored) (out' : List ℕ) → Stored (front_at k s at) (stop_at k s at) out r out' → FillsShape (value k s at) out r out'
stored_shape k s at out r out' w ns h = record { counted = w.counted ∙ ap length (front_shape k s at ns h); stopped = w.stopped ∙ stop_shape k s at ns h; out_after = w.out_after ∙ ap (sets out 0) (front_shape k s at ns h) }

-- ---- where there is room for all
pub stored_over : (ns old : List ℕ) → length ns ≤ length old → sets old 0 ns ≡ at_front ns old
stored_over ns old l =
    let z : 0 + length ns ≡ length ns = omega arith in
    rw z at (sets-eq ns old 0 (omega arith))
