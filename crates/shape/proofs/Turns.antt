-- What the two loops keep, and what holds at their ends. After k turns `acc` is the product of the first k dimensions visited, and in `fill` the
-- strides of these are in place and the room after the strides is as it was.
use Rattle.std.specs.Prelude.{Err, IsSome, None, Ok, Option, Some}
use Rattle.std.specs.Option.{ok_or}
use borrow.Author.Rules.{rules}
use Prim.Native.Nat.{ℕ, ◌+◌, ◌*◌, ◌-◌, ◌^◌, ◌<◌, ◌≤◌}
use mathlib.Core.Path.{◌≡◌, refl, ap, sym, ◌∙◌}
use mathlib.Core.Bool.{Bool, true, false}
use mathlib.Core.Logic.{⊎_elim}
use mathlib.Core.List.{List}
use native.Mathlib.Omega.{arith}
use borrow.Author.Tests.{lt-ltb, le-ltb}
use lib.ListN.{length, get_or, drop, set, length-set, length-append, length-drop, get_or-append}
use lib.Seq.{ext_get_or, get_or-set_same, get_or-set_other, get_or-append-add, get_or-drop}
use Rattle.counts.specs.Outcome.{gives, refused, unless}
use Rattle.counts.specs.declared.Items.{Items}
use Rattle.counts.specs.Number.{number}
use Rattle.counts.specs.Counts.{items}
use Rattle.counts.proofs.Counted.{items_back, items_over_lem}
use Rattle.dtype.specs.declared.Order.{Order}
use Rattle.dtype.specs.Shape.{product, stride, strides}
use Rattle.dtype.specs.Limits.{over_shape}
use Rattle.dtype.proofs.Strides.{strides_at, strides_length}
use Rattle.refusal.specs.declared.Refusal.{Refusal}
use Rattle.refusal.specs.Numbers.{number_of}
use Rattle.refusal.specs.Answers.{items_answer}
use Rattle.counts.specs.Lists.{at_front}
use Rattle.counts.proofs.Sides.{lt_or_ge}
use Rattle.shape.specs.Count.{item_count, strides_count, WritesStrides}
use Rattle.shape.specs.Visit.{visited}
use Rattle.shape.proofs.Passed.{visited_below, visited_back, visited_apart, passed, passed_none, passed_all, passed_next, stride_passed, all_fit, one_over}

-- the product after one more turn, `at` being the dimension that it visits
next_product : (o : Order) (s : List ℕ) (acc k at : ℕ) → acc ≡ passed o s k → k < length s → at ≡ visited o (length s) k → passed o s (k + 1) ≡ get_or s at 0 * acc
next_product o s acc k at e l v = rw (v, e) (passed_next o s k l ∙ omega arith)

-- the loop of `count`
pub record Counting (o : Order) (s : List ℕ) (acc k : ℕ) : Type 0 where
  pub within : k ≤ length s
  pub is : acc ≡ passed o s k
  pub fit : (j : ℕ) → j ≤ k → passed o s j < 2 ^ 64

pub counting_start : (o : Order) (s : List ℕ) → Counting o s 1 0
counting_start o s =
    record {
      within = omega arith;
      is = sym (passed_none o s);
      fit = λ j l. let z : j ≡ 0 = omega arith in rw (z, passed_none o s) (omega arith);
    }

module _ (o : Order) (s : List ℕ) (acc k at : ℕ) (c : Counting o s acc k) (l : k < length s) (v : at ≡ visited o (length s) k) where
  pub counting_next : (m : Items) → Some m ≡ items (number (get_or s at 0 * acc)) → Counting o s m.0 (k + 1)
  counting_next m e =
      let b = items_back (get_or s at 0 * acc) m e in
      let q : passed o s (k + 1) ≡ m.0 = next_product o s acc k at c.is l v ∙ b.0 in
      record {
        within = omega arith;
        is = sym q;
        fit = λ j h.
            ⊎_elim
            (λ (u : j < k + 1). c.fit j (omega arith))
            (λ (u : k + 1 ≤ j). let z : j ≡ k + 1 = omega arith in rw (z, q) (omega (arith, b.0, b.1)))
            (lt_or_ge j (k + 1));
      }

  pub counting_over : (r : Option Items) (why : Refusal) → r ≡ items (number (get_or s at 0 * acc)) → Err why ≡ ok_or r Refusal.Shape → items_answer (Err why) ≡ item_count o s
  unfolding item_count
  counting_over None why e q =
      let w : why ≡ Refusal.Shape = cc in
      let b = items_over_lem (get_or s at 0 * acc) e in
      rw w (simp (one_over o s (k + 1) (omega arith) (rw (next_product o s acc k at c.is l v) b)))
  counting_over (Some m) why e q = cc

pub counting_end : (o : Order) (s : List ℕ) (acc k : ℕ) → Counting o s acc k → length s ≤ k → gives acc ≡ item_count o s
unfolding item_count
counting_end o s acc k c l =
    let z : k ≡ length s = omega (arith, c.within) in
    let e : acc ≡ product s = c.is ∙ rw z (passed_all o s) in
    simp (all_fit o s (λ j h. c.fit j (omega arith)), e)

-- the loop of `fill`
pub record Filling (o : Order) (s old : List ℕ) (acc k : ℕ) (out : List ℕ) : Type 0 where
  pub room : length s ≤ length old
  pub fit : over_shape o s ≡ false
  pub same_length : length out ≡ length old
  pub within : k ≤ length s
  pub is : acc ≡ passed o s k
  pub placed : (j : ℕ) → j < k → get_or out (visited o (length s) j) 0 ≡ passed o s j
  pub after : (i : ℕ) → length s ≤ i → get_or out i 0 ≡ get_or old i 0

pub filling_start : (o : Order) (s old : List ℕ) → length s ≤ length old → over_shape o s ≡ false → Filling o s old 1 0 old
filling_start o s old r f =
    record {
      room = r;
      fit = f;
      same_length = refl;
      within = omega arith;
      is = sym (passed_none o s);
      placed = λ j l. absurd (omega arith);
      after = λ i l. refl;
    }

module _ (o : Order) (s old : List ℕ) (acc k at : ℕ) (out : List ℕ) (f : Filling o s old acc k out) (l : k < length s)
    (v : at ≡ visited o (length s) k) where
  -- where the shape is not over, the next product fits
  filling_fits : get_or s at 0 * acc < 2 ^ 64
  filling_fits =
      let q = next_product o s acc k at f.is l v in
      ⊎_elim
      (λ (u : passed o s (k + 1) < 2 ^ 64). rw (← q) u)
      (λ (u : 2 ^ 64 ≤ passed o s (k + 1)).
      let t = one_over o s (k + 1) (omega arith) u in
      let z : ◌≡◌ {A = ℕ} 0 1 = cc (t, f.fit) in
      absurd (omega arith))
      (lt_or_ge (passed o s (k + 1)) (2 ^ 64))

  pub filling_some : (r : Option Items) → r ≡ items (number (get_or s at 0 * acc)) → IsSome r
  filling_some (Some m) e = search rules
  filling_some None e = absurd (omega (arith, filling_fits, items_over_lem (get_or s at 0 * acc) e))

  pub filling_next : (m : Items) → Some m ≡ items (number (get_or s at 0 * acc)) → Filling o s old m.0 (k + 1) (set out at acc)
  filling_next m e =
      let b : at < length s = rw v (visited_below o (length s) k l) in
      let put : get_or (set out at acc) at 0 ≡ acc = get_or-set_same out at acc 0 (omega (arith, f.same_length, f.room)) in
      record {
        room = f.room;
        fit = f.fit;
        same_length = length-set out at acc ∙ f.same_length;
        within = omega arith;
        is = sym (next_product o s acc k at f.is l v ∙ (items_back (get_or s at 0 * acc) m e).0);
        placed = λ j h.
            ⊎_elim
            (λ (u : j < k). get_or-set_other out at (visited o (length s) j) acc 0 (λ e. visited_apart o (length s) j k u l (e ∙ v)) ∙ f.placed j u)
            (λ (u : k ≤ j). let z : j ≡ k = omega arith in rw (z, ← v) (put ∙ f.is))
            (lt_or_ge j k);
        after = λ j h. get_or-set_other out at j acc 0 (λ e. omega arith) ∙ f.after j h;
      }

pub filling_end : (o : Order) (s old : List ℕ) (acc k : ℕ) (out : List ℕ) → Filling o s old acc k out → length s ≤ k → out ≡ at_front (strides o s) old
filling_end o s old acc k out f l =
    let n = strides_length o s in
    let z : k ≡ length s = omega (arith, f.within) in
    ext_get_or 0 out (at_front (strides o s) old)
    (f.same_length
    ∙ sym (length-append (strides o s) (drop (length (strides o s)) old) ∙ ap (λ (x : ℕ). length (strides o s) + x) (length-drop (length (strides o s)) old) ∙ omega (arith, f.room)))
    (λ i h.
    ⊎_elim
    (λ (u : i < length s).
    let j : ℕ = visited o (length s) i in
    let b : j < length s = visited_below o (length s) i u in
    let back = visited_back o (length s) i u in
    let e : get_or out i 0 ≡ passed o s j = rw back at (f.placed j (omega arith)) in
    let g : stride o s i ≡ passed o s j = rw back at (stride_passed o s j b) in
    e ∙ sym (get_or-append (strides o s) (drop (length (strides o s)) old) 0 i (omega arith) ∙ strides_at o s i u ∙ g))
    (λ (u : length s ≤ i).
    let y : length (strides o s) + (i - length (strides o s)) ≡ i = omega arith in
    let g : get_or (at_front (strides o s) old) i 0 ≡ get_or old i 0 =
    rw y at (get_or-append-add (strides o s) (drop (length (strides o s)) old) (i - length (strides o s)) 0
    ∙ get_or-drop (length (strides o s)) old (i - length (strides o s)) 0) in
    f.after i u ∙ sym g)
    (lt_or_ge i (length s)))

-- what counting the items says of 22
pub counted_fits : (o : Order) (s : List ℕ) (n : ℕ) → gives n ≡ item_count o s → (over_shape o s ≡ false) × (n ≡ product s)
unfolding item_count
counted_fits o s n e = go (over_shape o s) refl e
  where
    go : (b : Bool) → over_shape o s ≡ b → gives n ≡ unless b 22 (gives (product s)) → (over_shape o s ≡ false) × (n ≡ product s)
    go true t e = let z : ◌≡◌ {A = ℕ} 0 1 = cc in absurd (omega arith)
    go false t e = (t, cc)

pub counted_refused : (o : Order) (s : List ℕ) (n : ℕ) → refused n ≡ item_count o s → (over_shape o s ≡ true) × (n ≡ 22)
unfolding item_count
counted_refused o s n e = go (over_shape o s) refl e
  where
    go : (b : Bool) → over_shape o s ≡ b → refused n ≡ unless b 22 (gives (product s)) → (over_shape o s ≡ true) × (n ≡ 22)
    go true t e = (t, cc)
    go false t e = let z : ◌≡◌ {A = ℕ} 0 1 = cc in absurd (omega arith)

-- the three answers of `strides`
module _ (o : Order) (s out : List ℕ) where
  -- where the items are not counted, their refusal is passed on: it is 22
  pub writes_refused : (why : Refusal) → items_answer (Err why) ≡ item_count o s → WritesStrides o s out (Err why) out
  unfolding strides_count
  writes_refused why e = let t = counted_refused o s (number_of why) e in record { answered = ap refused t.1 ∙ simp t.0; out_after = simp t.0 }

  pub writes_room : (n : ℕ) → gives n ≡ item_count o s → length out < length s → WritesStrides o s out (Err Refusal.Room) out
  unfolding strides_count
  writes_room n e l =
      let t = (counted_fits o s n e).0 in
      let u = lt-ltb (length out) (length s) l in
      record { answered = simp (t, u); out_after = simp (t, u) }

  pub writes_all : (n : Items) (out' : List ℕ) → gives n.0 ≡ item_count o s → length s ≤ length out → out' ≡ at_front (strides o s) out
      → WritesStrides o s out (Ok n) out'
  unfolding strides_count
  writes_all n out' e l q =
      let t = counted_fits o s n.0 e in
      let u = le-ltb (length out) (length s) l in
      record { answered = simp (t.0, u, t.1); out_after = simp (t.0, u, q) }
