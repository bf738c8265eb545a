-- Whole texts: the claim for the reading of a text; it is sound and complete for the grammar, within every limit; and a text gives one value. Blanks
-- at the front are skipped, and only blanks may be left after the value.
use Prim.Native.Nat.{ℕ, suc, ◌+◌}
use native.Mathlib.Omega.{arith}
use mathlib.Core.Path.{◌≡◌, refl, sym, ap, ◌∙◌, subst}
use mathlib.Core.List.{List, [], ◌∷◌, ◌++◌, append_assoc, append-nil}
use mathlib.Core.Bool.{false}
use Rattle.decimal.specs.Decimal.{is_digit}
use Rattle.literal_grammar.specs.Bytes.{is_blank}
use Rattle.literal_grammar.specs.Value.{Value}
use Rattle.literal_grammar.specs.Grammar.{Gives}
use Rattle.literal_grammar.specs.Promise.{GivesIn, got, fault, deep}
use Rattle.literal_grammar.proofs.Texts.{Blanks, head_of, Alike, alike_head, alike_on, gap}
use Rattle.literal_grammar.proofs.Layers.{padded, padded_sub, Layer, Literal, deeper, raise, raise'}
use Rattle.literal_grammar.proofs.Same.{given, at_depth, some_layer}
use Rattle.literal_grammar.proofs.Reading.{Read, skip, value, alone, literal}
use Rattle.literal_grammar.proofs.Faithful.{By, Same, Returns, Faithful, reads, moved, faithful_fault, faithful_deep}
use Rattle.literal_grammar.proofs.Tokens.{skips}
use Rattle.literal_grammar.proofs.Values.{faithful_value}
use Rattle.literal_grammar.proofs.Complete.{Stop, stop_blanks, starts_on, starts_blank, value_starts, value_complete}

-- ---- the reader, by how its text is made up
literal_front : (k : ℕ) (s a t : List ℕ) (g : Read Value) → Blanks a → is_blank (head_of t) ≡ false → s ≡ a ++ t → value k t ≡ g → literal k s ≡ alone g
unfolding literal
literal_front k s a t g ba nt e h = rw (literal, skips s a t ba nt e, h)

alone_end : (v : Value) (b : List ℕ) → Blanks b → alone (got v b) ≡ got v []
unfolding alone is_blank
alone_end v b bb = let e : skip b ≡ [] = skips b b [] bb refl (sym (append-nil b)) in rw (alone, e)

alone_stray : (v : Value) (b r : List ℕ) (x : ℕ) → Blanks b → is_blank x ≡ false → alone (got v (b ++ (x ∷ r))) ≡ fault (x ∷ r)
unfolding alone
alone_stray v b r x bb nx = rw (alone, skips (b ++ (x ∷ r)) b (x ∷ r) bb nx refl)

-- ---- the claim
module _ (k : ℕ) (a t : List ℕ) (ba : Blanks a) (nt : is_blank (head_of t) ≡ false) where
  abbrev Good : Type 0
  Good = Faithful (Literal k) (Literal (suc k)) (By (literal k)) (a ++ t)

  front : (y : List ℕ) (g : Read Value) → Alike t y → value k y ≡ g → literal k (a ++ y) ≡ alone g
  front y g al h = literal_front k (a ++ y) a y g ba (subst (λ x. is_blank x ≡ false) (sym (alike_head t y al)) nt) refl h

  -- after the value u blanks b, and z is left
  faithful_after : (v : Value) (u q b z : List ℕ) → t ≡ u ++ q → Layer k u v → Same (By (value k)) u (got v) q → Blanks b → q ≡ b ++ z → is_blank (head_of z) ≡ false → Good
  faithful_after v u q b z eu ru same bb ez nz =
      let e : a ++ t ≡ (a ++ (u ++ b)) ++ z = ap (λ y. a ++ y) (eu ∙ ap (λ y. u ++ y) ez) ∙ simp append_assoc in
      by_rest z e nz (λ r al.
      let al_q = alike_on q b z r ez al in
      ap (literal k) (simp append_assoc) ∙ front (u ++ (b ++ r)) (got v (b ++ r)) (alike_on t u q (b ++ r) eu al_q) (same (b ++ r) al_q))
    where
      by_rest : (z : List ℕ) → a ++ t ≡ (a ++ (u ++ b)) ++ z → is_blank (head_of z) ≡ false → ((r : List ℕ) → Alike z r → literal k ((a ++ (u ++ b)) ++ r) ≡ alone (got v (b ++ r))) → Good
      by_rest [] e nz on = (got v [], (a ++ (u ++ b), e, padded a u b ba ru bb, λ r al. on r al ∙ ap (λ y. alone (got v (b ++ y))) al ∙ ap (λ y. alone (got v y)) (append-nil b) ∙ alone_end v b bb ∙ ap (got v) (sym al)))
      by_rest (x ∷ z) e nz on =
          (fault (x ∷ z), (a ++ (u ++ b), e, ([], v, tt, subst (λ y. Literal k y v) (sym (append-nil (a ++ (u ++ b)))) (padded a u b ba ru bb)), λ r al. on r al ∙ ap (λ y. alone (got v (b ++ y))) al.1 ∙ alone_stray v b al.0 x bb nz ∙ ap fault (sym al.1)))

  faithful_front : (g : Read Value) → Returns (Layer k) (Layer (suc k)) (By (value k)) t g → Good
  unfolding alone
  faithful_front (got v q) (u, eu, ru, same) = let (b, z, bb, ez, nz) = gap q in faithful_after v u q b z eu ru same bb ez nz
  faithful_front (fault q) x =
      faithful_fault (Layer k) (Layer (suc k)) (Literal k) (Literal (suc k)) (By (value k)) (By (literal k)) a (λ v. v) [] t q tt (λ u v ru. padded a u [] ba ru tt) (λ y r al h. front y (fault r) al h) x
  faithful_front (deep q) x =
      faithful_deep (Layer k) (Layer (suc k)) (Literal k) (Literal (suc k)) (By (value k)) (By (literal k)) a (λ v. v) [] t q tt (λ u v ru. padded a u [] ba ru tt) (λ u v ru. padded a u [] ba ru tt) (λ y r al h. front y (deep r) al h) x

pub faithful_literal : (k : ℕ) (s : List ℕ) → Faithful (Literal k) (Literal (suc k)) (By (literal k)) s
faithful_literal k s =
    let (a, t, ba, e, nt) = gap s in
    let (g, x) = faithful_value k t in
    moved (Literal k) (Literal (suc k)) (By (literal k)) e (faithful_front k a t ba nt g x)

-- ---- nothing is left after a whole text
rest_of : Read Value → List ℕ
rest_of (got v q) = q
rest_of (fault q) = []
rest_of (deep q) = []

value_of : Value → Read Value → Value
value_of d (got v q) = v
value_of d (fault q) = d
value_of d (deep q) = d

alone_rest : (g : Read Value) → rest_of (alone g) ≡ []
unfolding alone rest_of
alone_rest (got v q) = by_skip (skip q)
  where
    by_skip : (t : List ℕ) → rest_of (elim t [ [] ↦ got v [] | b ∷ r ↦ fault (b ∷ r) ]) ≡ []
    by_skip [] = refl
    by_skip (b ∷ r) = refl
alone_rest (fault q) = refl
alone_rest (deep q) = refl

pub nothing_left : (k : ℕ) (s : List ℕ) (v : Value) (q : List ℕ) → literal k s ≡ got v q → q ≡ []
unfolding literal rest_of
nothing_left k s v q h = sym (ap rest_of h) ∙ alone_rest (value k (skip s))

-- ---- sound, complete, one value
layer_sound : (k : ℕ) (s : List ℕ) (g : Read Value) → Returns (Literal k) (Literal (suc k)) (By (literal k)) s g → (v : Value) (q : List ℕ) → g ≡ got v q → q ≡ [] → Literal k s v
unfolding rest_of value_of
layer_sound k s (got w r) (u, e, x, same) v q h n =
    let er : r ≡ [] = ap rest_of h ∙ n in
    subst (λ y. Literal k y v) (sym (e ∙ ap (λ y. u ++ y) er ∙ append-nil u)) (subst (Literal k u) (ap (value_of w) h) x)
layer_sound k s (fault r) x v q h n = absurd (let z : ◌≡◌ {A = ℕ} 0 1 = cc in omega arith)
layer_sound k s (deep r) x v q h n = absurd (let z : ◌≡◌ {A = ℕ} 0 1 = cc in omega arith)

pub sound : (k : ℕ) (s : List ℕ) (v : Value) (q : List ℕ) → literal k s ≡ got v q → GivesIn k s v
sound k s v q h = let (g, x) = faithful_literal k s in given k s v (layer_sound k s g x v q (sym (reads (Literal k) (Literal (suc k)) (By (literal k)) s g x) ∙ h) (nothing_left k s v q h))

pub layer_complete : (k : ℕ) (s : List ℕ) (v : Value) → Literal k s v → literal k s ≡ got v []
unfolding is_digit
layer_complete k s v (padded a x b ba rx bb) =
    let st : Stop b = subst Stop (append-nil b) (stop_blanks b [] bb refl) in
    literal_front k (a ++ (x ++ b)) a (x ++ b) (got v b) ba (starts_blank (x ++ b) (starts_on x b (value_starts k x v rx))) refl (value_complete k x v rx b st) ∙ alone_end v b bb

pub complete : (k : ℕ) (s : List ℕ) (v : Value) → GivesIn k s v → literal k s ≡ got v []
complete k s v (g, h) = layer_complete k s v (at_depth g k h)

-- whatever limit gave it, every wider one does
pub literal_suc : (s : List ℕ) (v : Value) (k : ℕ) → Literal k s v → Literal (suc k) s v
literal_suc s v k = padded_sub (Layer k) (Layer (suc k)) (deeper k) s v

pub one_value : (s : List ℕ) (v w : Value) → Gives s v → Gives s w → v ≡ w
unfolding value_of
one_value s v w g h =
    let (j, x) = some_layer s v g in
    let (k, y) = some_layer s w h in
    let e = sym (layer_complete (k + j) s v (raise (λ n. Literal n s v) (literal_suc s v) j k x)) ∙ layer_complete (k + j) s w (raise' (λ n. Literal n s w) (literal_suc s w) k j y) in
    ap (value_of v) e
