-- How the items of a bracket end, from a gap on, as crate literal reads them: at the gap where there is none, where an item has a fault, or as those after
-- the item do. What is left of the text bounds how many they are, so that any bound above it reads the same. Then the same from after the opening
-- bracket of a list or tuple, whose first item needs its comma where it is a tuple's.
use Prim.Native.Nat.{ℕ, zero, suc, ◌+◌, ◌<◌, ◌≤◌}
use native.Mathlib.Nat.{not-suc-le-zero}
use native.Mathlib.Omega.{arith}
use mathlib.Core.Path.{◌≡◌, refl, sym, ap, subst, ◌∙◌}
use mathlib.Core.Logic.{◌⊎◌, inl, inr, ⊎_elim}
use mathlib.Core.List.{List, [], ◌∷◌}
use mathlib.Core.Bool.{Bool, true, false, cond}
use lib.ListN.{length}
use lib.Dec.{eqb}
use borrow.Author.Tests.{eqb-true, eq-eqb, ne_eqb}
use denote.Enum.Declared.{tag_of}
use types.Run.{OneOf, miss}
use Rattle.literal_tokens.specs.Node.{Node}
use Rattle.literal_bytes.specs.Got.{Got, got, fault, deep, pos, with}
use Rattle.literal_bytes.specs.Text.{byte_at, skip}
use Rattle.literal.specs.Literal.{value}
use Rattle.literal_bytes.specs.Gaps.{gap_at, then_at, need_at, ended_at}
use Rattle.literal.specs.Brackets.{items_by, list_by, tuple_by}
use Rattle.literal.specs.Rows.{RowOf}
use Rattle.literal_bytes.specs.declared.Parsed.{Parsed}
use Rattle.literal_bytes.specs.declared.Parsed.TheVariants.{Value, Fault, Deep}
use Rattle.literal_bytes.specs.declared.Gap.{Gap}
use Rattle.literal_bytes.specs.declared.Gap.TheVariants.{Shut, Item, Stray}
use Rattle.literal_bytes.specs.contracts.Gap.{the_type}
use Rattle.literal.proofs.Ends.{pos_with, Ahead, value_ahead}
use Rattle.literal_bytes.proofs.GapEnds.{then_ahead}
use Rattle.literal.proofs.Rows as literal
use Rattle.literal.proofs.Rows.{row_step, row_shut, row_stray, row_reads}
use Rattle.literal.proofs.Steps.{thing, gap_left, gap_enough, gap_falls, tuple_end, tuple_stop, tuple_comma, tuple_more, ended_by, stop_by}
use Rattle.literal_bytes.proofs.Ends.{Stops}
use Rattle.descr_field.specs.After.{items_from, comma_then, second_at}

module _ (k : ℕ) (s : List ℕ) (close : ℕ) where
  -- there is no item at the gap
  pub from_end : (g : Gap) → OneOf (0 ∷ 2 ∷ []) (tag_of the_type g) → ended_at g ≡ pos (items_from k s close g)
  from_end g o = sym (ended_by (value k s) s close (length s + 2) g (gap_enough (length s) g) o)

  -- the item there has a fault
  pub from_stop : (g : Gap) (p : ℕ) (r : Parsed) → g ≡ Item p → r ≡ pos (value k s p) → Stops r → r ≡ pos (items_from k s close g)
  from_stop g p r hg hr st =
      hr ∙ (sym (stop_by (value k s) s close (length s + 2) p (value k s p) (gap_enough (length s) (Item p)) refl (subst (λ (x : Parsed). Stops x) hr st)) ∙ ap (λ (x : Gap). pos (items_from k s close x)) (sym hg))

  module _ (small : close < 256) where
    falls : (p q : ℕ) (v : Node) → value k s p ≡ got v q → gap_left (length s) (then_at s q close) < gap_left (length s) (Item p)
    falls p q v hr =
        let a : (p < q) × (q ≤ length s) = subst (λ (x : Got Node). Ahead p (length s) (pos x)) hr (value_ahead k s p) in
        gap_falls p q (length s) (then_at s q close) a.0 a.1 (then_ahead s q close small)

    -- any bound above what is left reads the same
    enough : (m n : ℕ) (g : Gap) → gap_left (length s) g < m → gap_left (length s) g < n → items_by (value k s) s close m g ≡ items_by (value k s) s close n g
    unfolding items_by
    enough zero n g lt lt' = absurd (not-suc-le-zero lt)
    enough (suc m) zero g lt lt' = absurd (not-suc-le-zero lt')
    enough (suc m) (suc n) (Shut e) lt lt' = refl
    enough (suc m) (suc n) (Stray p) lt lt' = refl
    enough (suc m) (suc n) (Item p) lt lt' = go (value k s p) refl (enough m n)
      where
        go : (x : Got Node) → value k s p ≡ x
            → ((g : Gap) → gap_left (length s) g < m → gap_left (length s) g < n → items_by (value k s) s close m g ≡ items_by (value k s) s close n g)
            → ◌≡◌ {A = Got (List Node)} (elim x [ got v q ↦ with (λ e. ◌∷◌ v) (items_by (value k s) s close m (then_at s q close)) | fault a ↦ fault a | deep a ↦ deep a ])
            (elim x [ got v q ↦ with (λ e. ◌∷◌ v) (items_by (value k s) s close n (then_at s q close)) | fault a ↦ fault a | deep a ↦ deep a ])
        go (got v q) hr ih =
            let less = falls p q v hr in
            ap (λ (y : Got (List Node)). with (λ e. ◌∷◌ v) y) (ih (then_at s q close) (omega arith) (omega arith))
        go (fault a) hr ih = refl
        go (deep a) hr ih = refl

    more_by : (m p q : ℕ) (v : Node) → gap_left (length s) (Item p) < m → value k s p ≡ got v q → pos (items_by (value k s) s close m (Item p)) ≡ pos (items_from k s close (then_at s q close))
    unfolding items_by
    more_by zero p q v lt hr = absurd (not-suc-le-zero lt)
    more_by (suc m) p q v lt hr =
        let less = falls p q v hr in
        rw (items_by, hr)
        (pos_with (λ e. ◌∷◌ v) (items_by (value k s) s close m (then_at s q close)) ∙ ap (λ (y : Got (List Node)). pos y) (enough m (length s + 2) (then_at s q close) (omega arith) (gap_enough (length s) (then_at s q close))))

    -- the item there ends before q
    pub from_more : (g g' : Gap) (p q : ℕ) (r : Parsed) → g ≡ Item p → r ≡ Value q → r ≡ pos (value k s p) → g' ≡ then_at s q close → pos (items_from k s close g) ≡ pos (items_from k s close g')
    from_more g g' p q r hg hq hr hg' =
        let t = thing (value k s p) q (sym hq ∙ hr) in
        ap (λ (x : Gap). pos (items_from k s close x)) hg ∙ (more_by (length s + 2) p q t.0 (gap_enough (length s) (Item p)) t.1 ∙ ap (λ (x : Gap). pos (items_from k s close x)) (sym hg'))

-- ---- from after the opening bracket of a list
module _ (k : ℕ) (s : List ℕ) (from close : ℕ) where
  pub list_from : items_from k s close (gap_at s from close) ≡ list_by (value k s) s from close
  unfolding list_by
  list_from = refl

-- ---- of a list or tuple
-- its items from `from` up to its bracket
abbrev pub inside : ℕ → List ℕ → ℕ → ℕ → Got (List Node)
inside k s from close = cond (eqb close 41) (tuple_by (value k s) s from) (list_by (value k s) s from close)

no_deep : (s : List ℕ) (q e : ℕ) → Deep e ≡ need_at s q 44 → ⊥
unfolding need_at
no_deep s q e h = go (eqb (byte_at s (skip s q)) 44) h
  where
    go : (t : Bool) → Deep e ≡ cond t (Value (skip s q + 1)) (Fault (skip s q)) → ⊥
    go true h = let z : ◌≡◌ {A = ℕ} 0 1 = cc in omega arith
    go false h = let z : ◌≡◌ {A = ℕ} 0 1 = cc in omega arith

module _ (k : ℕ) (s : List ℕ) (from : ℕ) where
  -- what holds of a tuple, and of a list whatever its bracket, holds of both
  by_close : (P : ℕ → Got (List Node) → (ℕ → Gap) → Type 0) (close : ℕ) → P 41 (tuple_by (value k s) s from) (λ q. comma_then s (need_at s q 44)) → P close (list_by (value k s) s from close) (λ q. then_at s q close)
      → P close (inside k s from close) (λ q. second_at s q close)
  by_close P close a b = go (eqb close 41) refl
    where
      go : (t : Bool) → eqb close 41 ≡ t
          → P close (cond t (tuple_by (value k s) s from) (list_by (value k s) s from close)) (λ q. cond t (comma_then s (need_at s q 44)) (then_at s q close))
      go true ht = subst (λ (c : ℕ). P c (tuple_by (value k s) s from) (λ q. comma_then s (need_at s q 44))) (sym (eqb-true close 41 ht)) a
      go false ht = b

  module _ (close : ℕ) (g : Gap) (hg : g ≡ gap_at s from close) where
    abbrev Ended : ℕ → Got (List Node) → (ℕ → Gap) → Type 0
    Ended c x f = g ≡ gap_at s from c → ended_at g ≡ pos x

    pub inside_end : OneOf (0 ∷ 2 ∷ []) (tag_of the_type g) → ended_at g ≡ pos (inside k s from close)
    inside_end o =
        by_close Ended close (λ h. tuple_end (value k s) s from g h o)
        (λ h. from_end k s close g o ∙ (ap (λ (x : Gap). pos (items_from k s close x)) h ∙ ap (λ (y : Got (List Node)). pos y) (list_from k s from close))) hg

    module _ (p : ℕ) (hp : g ≡ Item p) (r : Parsed) (hr : r ≡ pos (value k s p)) where
      abbrev Stopped : ℕ → Got (List Node) → (ℕ → Gap) → Type 0
      Stopped c x f = g ≡ gap_at s from c → r ≡ pos x

      pub inside_stop : Stops r → r ≡ pos (inside k s from close)
      inside_stop st =
          by_close Stopped close (λ h. tuple_stop (value k s) s from p r (sym h ∙ hp) hr st)
          (λ h. from_stop k s close g p r hp hr st ∙ (ap (λ (x : Gap). pos (items_from k s close x)) h ∙ ap (λ (y : Got (List Node)). pos y) (list_from k s from close))) hg

      module _ (small : close < 256) (q : ℕ) (hq : r ≡ Value q) where
        abbrev More : ℕ → Got (List Node) → (ℕ → Gap) → Type 0
        More c x f = g ≡ gap_at s from c → pos x ≡ pos (items_from k s c (f q))

        comma_by : gap_at s from 41 ≡ Item p → (c : Parsed) → c ≡ need_at s q 44 → pos (tuple_by (value k s) s from) ≡ pos (items_from k s 41 (comma_then s c))
        comma_by h (Value e) hn = sym (tuple_more (value k s) s from p q e h (sym hq ∙ hr) hn) ∙ sym (ap (λ (y : Got (List Node)). pos y) (list_from k s e 41))
        comma_by h (Fault e) hn = sym (tuple_comma (value k s) s from p q (Fault e) h (sym hq ∙ hr) hn tt) ∙ from_end k s 41 (Stray e) (inr refl)
        comma_by h (Deep e) hn = absurd (no_deep s q e hn)

        pub inside_more : (g' : Gap) → g' ≡ second_at s q close → pos (inside k s from close) ≡ pos (items_from k s close g')
        inside_more g' hg' =
            by_close More close (λ h. comma_by (sym h ∙ hp) (need_at s q 44) refl)
            (λ h. sym (ap (λ (y : Got (List Node)). pos y) (list_from k s from close)) ∙ (ap (λ (x : Gap). pos (items_from k s close x)) (sym h) ∙ from_more k s close small g (then_at s q close) p q r hp hq hr refl)) hg
            ∙ ap (λ (x : Gap). pos (items_from k s close x)) (sym hg')

-- ---- a row goes on where the code looks for it: a tuple's first item without its comma is its last
module _ (k : ℕ) (s : List ℕ) (close : ℕ) where
  -- where there is no item a row ends
  pub row_over : (ns : List Node) (g : Gap) (e : ℕ) → OneOf (0 ∷ 2 ∷ []) (tag_of the_type g) → RowOf (value k s) s close ns g e → ns ≡ []
  row_over ns (Shut p) e o h = (row_shut (value k s) s close ns p e h).0
  row_over ns (Item p) e o h = absurd (miss (0 ∷ 2 ∷ []) 1 tt o)
  row_over ns (Stray p) e o h = absurd (row_stray (value k s) s close ns p e h)

  -- one item more
  pub row_next : (ns : List Node) (g : Gap) (p e : ℕ) → g ≡ Item p → RowOf (value k s) s close ns g e
      → (n : Node) × (us : List Node) × (q : ℕ) × (ns ≡ n ∷ us) × (value k s p ≡ got n q) × RowOf (value k s) s close us (then_at s q close) e
  row_next ns g p e hg h = row_step (value k s) s close ns p e (subst (λ (x : Gap). RowOf (value k s) s close ns x e) hg h)

  -- the same, where the code's answer for the item is known
  pub row_after : (ns : List Node) (g : Gap) (p q e : ℕ) (r : Parsed) → g ≡ Item p → r ≡ Value q → r ≡ pos (value k s p) → RowOf (value k s) s close ns g e
      → (n : Node) × (us : List Node) × (ns ≡ n ∷ us) × (value k s p ≡ got n q) × RowOf (value k s) s close us (then_at s q close) e
  row_after ns g p q e r hg hq hr h = literal.row_next (value k s) s close ns p q e r (subst (λ (x : Gap). RowOf (value k s) s close ns x e) hg h) hr hq

  -- no item of a row has a fault
  pub row_stops : {X : Type 0} (ns : List Node) (g : Gap) (p e : ℕ) (r : Parsed) → g ≡ Item p → r ≡ pos (value k s p) → Stops r → RowOf (value k s) s close ns g e → X
  row_stops ns g p e r hg hr st h = absurd (row_reads (value k s) s close ns p e r (subst (λ (x : Gap). RowOf (value k s) s close ns x e) hg h) hr st)

abbrev Second : List ℕ → ℕ → ℕ → Gap → Type 0
Second s q close g = (g ≡ then_at s q close) ⊎ ((p : ℕ) × (g ≡ Stray p) × OneOf (0 ∷ 2 ∷ []) (tag_of the_type (then_at s q close)))

comma_second : (s : List ℕ) (q : ℕ) → Second s q 41 (comma_then s (need_at s q 44))
unfolding need_at then_at
comma_second s q = go (eqb (byte_at s (skip s q)) 44) refl
  where
    stray : (t : Bool) → OneOf (0 ∷ 2 ∷ []) (tag_of the_type (cond t (Shut (skip s q + 1)) (Stray (skip s q))))
    stray true = inl refl
    stray false = inr refl

    go : (t : Bool) → eqb (byte_at s (skip s q)) 44 ≡ t → Second s q 41 (comma_then s (need_at s q 44))
    go true ht = inl (rw (need_at, then_at, ht, eqb-true (byte_at s (skip s q)) 44 ht))
    go false ht = inr (rw (need_at, then_at, ht) (skip s q, refl, stray (eqb (byte_at s (skip s q)) 41)))

second_by : (s : List ℕ) (q close : ℕ) → Second s q close (second_at s q close)
second_by s q close = go (eqb close 41) refl
  where
    go : (t : Bool) → eqb close 41 ≡ t → Second s q close (cond t (comma_then s (need_at s q 44)) (then_at s q close))
    go true ht = subst (λ (c : ℕ). Second s q c (comma_then s (need_at s q 44))) (sym (eqb-true close 41 ht)) (comma_second s q)
    go false ht = inl refl

-- as the code looks for it
pub second_list : (s : List ℕ) (q close : ℕ) → (close ≡ 41 → ⊥) → then_at s q close ≡ second_at s q close
second_list s q close h = sym (ap (λ (t : Bool). cond t (comma_then s (need_at s q 44)) (then_at s q close)) (ne_eqb close 41 h))

-- in a tuple an item comes only after the comma
pub second_there : (s : List ℕ) (q close : ℕ) (g : Gap) (p : ℕ) → g ≡ then_at s q close → g ≡ Item p → g ≡ second_at s q close
second_there s q close g p hg hp =
    ⊎_elim (λ z. hg ∙ sym z) (λ z. absurd (miss (0 ∷ 2 ∷ []) 1 tt (subst (λ (x : Gap). OneOf (0 ∷ 2 ∷ []) (tag_of the_type x)) (sym hg ∙ hp) z.2))) (second_by s q close)

pub second_tuple : (s : List ℕ) (q close : ℕ) (c : Parsed) → close ≡ 41 → need_at s q 44 ≡ c → comma_then s c ≡ second_at s q close
second_tuple s q close c h hc = sym (ap (λ (t : Bool). cond t (comma_then s (need_at s q 44)) (then_at s q close)) (eq-eqb close 41 h) ∙ ap (comma_then s) hc)

module _ (k : ℕ) (s : List ℕ) (close q : ℕ) (g : Gap) (hg : g ≡ second_at s q close) where
  pub second_over : (us : List Node) (e : ℕ) → OneOf (0 ∷ 2 ∷ []) (tag_of the_type g) → RowOf (value k s) s close us (then_at s q close) e → us ≡ []
  second_over us e o h =
      ⊎_elim (λ z. row_over k s close us g e o (subst (λ (x : Gap). RowOf (value k s) s close us x e) (sym (hg ∙ z)) h)) (λ z. row_over k s close us (then_at s q close) e z.2 h) (second_by s q close)

  pub second_item : (p : ℕ) → g ≡ Item p → then_at s q close ≡ Item p
  second_item p hp =
      ⊎_elim (λ z. sym (hg ∙ z) ∙ hp) (λ z. absurd (let w : Stray z.0 ≡ Item p = sym z.1 ∙ (sym hg ∙ hp) in let y : ◌≡◌ {A = ℕ} 0 1 = cc in omega arith)) (second_by s q close)
