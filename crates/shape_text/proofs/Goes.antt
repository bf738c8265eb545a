-- What a loop over the items of a bracket keeps: whichever items the bracket has, those from the gap on are its last ones, and F holds of all the items
-- and the last ones. A law for each place of such a loop: its start, one more item and its end.
use Prim.Native.Nat.{ℕ, ◌+◌, ◌<◌, ◌≤◌}
use native.Mathlib.Omega.{arith}
use mathlib.Core.Path.{◌≡◌, sym, ap, subst, ◌∙◌}
use mathlib.Core.List.{List, [], ◌∷◌}
use denote.Enum.Declared.{tag_of}
use types.Run.{OneOf, miss}
use Rattle.literal_bytes.specs.Got.{Got, got, pos}
use Rattle.literal_bytes.specs.Gaps.{gap_at, then_at}
use Rattle.literal.specs.Rows.{RowOf}
use Rattle.literal_bytes.specs.declared.Parsed.{Parsed}
use Rattle.literal_bytes.specs.declared.Parsed.TheVariants.{Value}
use Rattle.literal_bytes.specs.declared.Gap.{Gap}
use Rattle.literal_bytes.specs.declared.Gap.TheVariants.{Shut, Item, Stray}
use Rattle.literal_bytes.specs.contracts.Gap as gap
use Rattle.literal_bytes.proofs.GapEnds.{GapAhead}
use Rattle.literal.proofs.Rows.{row_step, row_shut, row_stray}

module _ {A : Type 0} (rd : ℕ → Got A) (s : List ℕ) (close from : ℕ) where
  abbrev pub Goes : (F : List A → List A → Type 0) → Gap → Type 0
  Goes F g = (vs : List A) (e : ℕ) → RowOf rd s close vs (gap_at s from close) e → (us : List A) × RowOf rd s close us g e × F vs us

  pub goes_start : (F : List A → List A → Type 0) (g : Gap) → g ≡ gap_at s from close → ((vs : List A) → F vs vs) → Goes F g
  goes_start F g hg f vs e r = (vs, subst (λ (x : Gap). RowOf rd s close vs x e) (sym hg) r, f vs)

  end_by_lem : (F : List A → List A → Type 0) (vs us : List A) (e : ℕ) (g : Gap) → OneOf (0 ∷ 2 ∷ []) (tag_of gap.the_type g) → RowOf rd s close us g e → F vs us → F vs []
  end_by_lem F vs us e (Shut p) o r f = subst (F vs) (row_shut rd s close us p e r).0 f
  end_by_lem F vs us e (Stray p) o r f = absurd (row_stray rd s close us p e r)
  end_by_lem F vs us e (Item p) o r f = absurd (miss (0 ∷ 2 ∷ []) 1 tt o)

  pub goes_end : (F : List A → List A → Type 0) (g : Gap) → Goes F g → OneOf (0 ∷ 2 ∷ []) (tag_of gap.the_type g)
      → (vs : List A) (e : ℕ) → RowOf rd s close vs (gap_at s from close) e → F vs []
  goes_end F g w o vs e r = let k = w vs e r in end_by_lem F vs k.0 e g o k.1 k.2

  -- the item at p
  item_at : (g : Gap) (us : List A) (p e : ℕ) → g ≡ Item p → RowOf rd s close us g e
      → (v : A) × (ts : List A) × (q : ℕ) × (us ≡ v ∷ ts) × (rd p ≡ got v q) × RowOf rd s close ts (then_at s q close) e
  item_at g us p e hp r = row_step rd s close us p e (subst (λ (x : Gap). RowOf rd s close us x e) hp r)

  pub goes_more : (F F' : List A → List A → Type 0) (g g' : Gap) (p q : ℕ) (r : Parsed) → Goes F g → g ≡ Item p → r ≡ Value q → r ≡ pos (rd p) → g' ≡ then_at s q close
      → ((v : A) (vs us : List A) → rd p ≡ got v q → F vs (v ∷ us) → F' vs us) → Goes F' g'
  goes_more F F' g g' p q r w hp hq hr hg f vs e row =
      let k = w vs e row in
      let i = item_at g k.0 p e hp k.1 in
      let x : Value q ≡ Value i.2 = sym hq ∙ hr ∙ ap pos i.4 in
      let y : i.2 ≡ q = cc in
      (i.1, subst (λ (z : Gap). RowOf rd s close i.1 z e) (ap (λ (z : ℕ). then_at s z close) y ∙ sym hg) i.5, f i.0 vs i.1 (i.4 ∙ ap (got i.0) y) (subst (F vs) i.3 k.2))

-- ---- a text has no more items than bytes
abbrev pub Counted : ℕ → Gap → Type 0
Counted n (Shut e) = Unit {0}
Counted n (Item p) = n ≤ p
Counted n (Stray p) = Unit {0}

pub counted_none : (g : Gap) → Counted 0 g
counted_none (Shut e) = tt
counted_none (Item p) = omega arith
counted_none (Stray p) = tt

pub counted_at : (n p : ℕ) (g : Gap) → Counted n g → g ≡ Item p → n ≤ p
counted_at n p g c h = subst (Counted n) h c

pub counted_more : (n m p q hi : ℕ) (g : Gap) → n ≤ p → m ≤ n + 1 → p < q → GapAhead q hi g → Counted m g
counted_more n m p q hi (Shut e) a b lt h = tt
counted_more n m p q hi (Item r) a b lt h = omega arith
counted_more n m p q hi (Stray r) a b lt h = tt
