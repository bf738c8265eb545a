-- The reading keeps the promise (`kept`), and no other outcome does (`only_kept`); the same with positions as places (`kept_at`, `one_outcome_at`).
-- Kept: by the claim for the reading of a whole text, and since a fault is one at every wider limit. Only: of two places in a text one comes before the
-- other; the part before the later one continues with the byte that is barred at the earlier one, and yet can be completed.
use Prim.Native.Nat.{ℕ, suc, ◌+◌, ◌-◌, ◌≤◌}
use native.Mathlib.Omega.{arith}
use mathlib.Core.Path.{◌≡◌, refl, sym, ap, ◌∙◌, subst}
use mathlib.Core.List.{List, [], ◌∷◌, ◌++◌, append_assoc, append-nil}
use mathlib.Core.Bool.{true}
use lib.ListN.{length, take, drop, length-append, length-drop, take-append-drop}
use Rattle.counts.proofs.Alike.{true_false}
use Rattle.literal_grammar.specs.Bytes.{is_open}
use Rattle.literal_grammar.specs.Value.{Value}
use Rattle.literal_grammar.specs.Grammar.{Gives}
use Rattle.literal_grammar.specs.Promise.{GivesIn, Completable, Barred, Faulty, TooDeep, Got, got, fault, deep, PromiseAt}
use Rattle.literal_grammar.proofs.Texts.{head_of, tail_of, Alike, alike_self}
use Rattle.literal_grammar.proofs.Layers.{Literal, raise'}
use Rattle.literal_grammar.proofs.Same.{given, some_layer}
use Rattle.literal_grammar.proofs.Reading.{Read, literal}
use Rattle.literal_grammar.proofs.Faithful.{By, Returns, reads}
use Rattle.literal_grammar.proofs.Limits.{fault_wider}
use Rattle.literal_grammar.proofs.Whole.{faithful_literal, nothing_left, sound, complete, layer_complete, literal_suc, one_value}

-- the promise where a place is the rest of the text from there on
abbrev pub Promise : ℕ → List ℕ → Got (List ℕ) Value → Type 0
Promise k s (got v q) = (q ≡ []) × GivesIn k s v
Promise k s (fault q) = (u : List ℕ) × (s ≡ u ++ q) × Faulty k u q
Promise k s (deep q) = (u : List ℕ) × (s ≡ u ++ q) × TooDeep k u q

got_fault : {A : Type 0} {v : A} {r q : List ℕ} → ◌≡◌ {A = Read A} (got v r) (fault q) → ⊥
got_fault e = let z : ◌≡◌ {A = ℕ} 0 1 = cc in omega arith

got_deep : {A : Type 0} {v : A} {r q : List ℕ} → ◌≡◌ {A = Read A} (got v r) (deep q) → ⊥
got_deep e = let z : ◌≡◌ {A = ℕ} 0 1 = cc in omega arith

-- ---- barred: whatever continues as q does is no text of P
abbrev NoneSo : (List ℕ → Value → Type 0) → List ℕ → List ℕ → Type 0
NoneSo P u q = (r : List ℕ) → Alike q r → (v : Value) → P (u ++ r) v → ⊥

barred_of : (P : List ℕ → Value → Type 0) (u q : List ℕ) → NoneSo P u q → Barred P u q
barred_of P u [] none = λ v x. none [] refl v (subst (λ y. P y v) (sym (append-nil u)) x)
barred_of P u (b ∷ q) none = λ t v x. none (b ∷ t) (t, refl) v x

none_of : (P : List ℕ → Value → Type 0) (u q : List ℕ) → Barred P u q → NoneSo P u q
none_of P u [] bar r e v x = bar v (subst (λ y. P y v) (ap (λ y. u ++ y) e ∙ append-nil u) x)
none_of P u (b ∷ q) bar r (w, e) v x = bar w v (subst (λ y. P (u ++ y) v) e x)

-- ---- the promise is kept
completable_in : (k : ℕ) (u : List ℕ) → Completable (Literal k) u → Completable (GivesIn k) u
completable_in k u (t, v, bt, x) = (t, v, bt, given k (u ++ t) v x)

-- no limit gives a text that is a fault at one of them
no_text : (k : ℕ) (s q : List ℕ) (v : Value) → literal k s ≡ fault q → Gives s v → ⊥
no_text k s q v h g =
    let (j, x) = some_layer s v g in
    got_fault (sym (layer_complete (j + k) s v (raise' (λ n. Literal n s v) (literal_suc s v) j k x)) ∙ fault_wider s q k j h)

open_cons : (q : List ℕ) → is_open (head_of q) ≡ true → q ≡ head_of q ∷ tail_of q
unfolding is_open
open_cons [] h = true_false (sym h)
open_cons (b ∷ q) h = refl

promise_of : (k : ℕ) (s : List ℕ) (g : Read Value) → Returns (Literal k) (Literal (suc k)) (By (literal k)) s g → literal k s ≡ g → Promise k s g
promise_of k s (got v q) x h = (nothing_left k s v q h, sound k s v q h)
promise_of k s (fault q) (u, e, via, same) h = (u, e, record { before = completable_in k u via; there = barred_of Gives u q (λ r al v g. no_text k (u ++ r) r v (same r al) g) })
promise_of k s (deep q) (u, e, via, via⁺, op, same) h = (
  u,
  e,
  record {
    before = completable_in k u via;
    bracket = head_of q;
    left = tail_of q;
    begins = open_cons q op;
    opens = op;
    may_stand = completable_in (suc k) (u ++ head_of q ∷ []) via⁺;
    there = barred_of (GivesIn k) u q (λ r al v g. got_deep (sym (complete k (u ++ r) v g) ∙ same r al));
  },
)

pub kept : (k : ℕ) (s : List ℕ) → Promise k s (literal k s)
kept k s =
    let (g, x) = faithful_literal k s in
    let h = reads (Literal k) (Literal (suc k)) (By (literal k)) s g x in
    subst (Promise k s) (sym h) (promise_of k s g x h)

-- ---- and no other outcome keeps it
data Fork (u q u' q' : List ℕ) : Type 0 where
  meet : u ≡ u' → q ≡ q' → Fork u q u' q'
  first : (c : ℕ) (z w : List ℕ) → q ≡ c ∷ z → u' ≡ u ++ (c ∷ w) → Fork u q u' q'
  second : (c : ℕ) (z w : List ℕ) → q' ≡ c ∷ z → u ≡ u' ++ (c ∷ w) → Fork u q u' q'

fork_on : (b b' : ℕ) (u q u' q' : List ℕ) → b ≡ b' → Fork u q u' q' → Fork (b ∷ u) q (b' ∷ u') q'
fork_on b b' u q u' q' e (meet x y) = meet (ap (λ a. a ∷ u) e ∙ ap (λ a. b' ∷ a) x) y
fork_on b b' u q u' q' e (first c z w x y) = first c z w x (ap (λ a. b' ∷ a) y ∙ ap (λ a. a ∷ (u ++ (c ∷ w))) (sym e))
fork_on b b' u q u' q' e (second c z w x y) = second c z w x (ap (λ a. b ∷ a) y ∙ ap (λ a. a ∷ (u' ++ (c ∷ w))) e)

fork : (u q u' q' : List ℕ) → u ++ q ≡ u' ++ q' → Fork u q u' q'
fork [] q [] q' e = meet refl e
fork [] q (c ∷ w) q' e = first c (w ++ q') w e refl
fork (c ∷ w) q [] q' e = second c (w ++ q) w (sym e) refl
fork (b ∷ u) q (b' ∷ u') q' e = fork_on b b' u q u' q' (ap head_of e) (fork u q u' q' (ap tail_of e))

no_further : (P : List ℕ → Value → Type 0) (u q u' : List ℕ) (c : ℕ) (z w : List ℕ) → q ≡ c ∷ z → u' ≡ u ++ (c ∷ w) → Barred P u q → Completable P u' → ⊥
no_further P u q u' c z w eq eu bar (t, v, bt, x) =
    let e : u' ++ t ≡ u ++ (c ∷ (w ++ t)) = ap (λ y. y ++ t) eu ∙ append_assoc u (c ∷ w) t in
    none_of P u q bar (c ∷ (w ++ t)) (subst (λ y. Alike y (c ∷ (w ++ t))) (sym eq) (w ++ t, refl)) v (subst (λ y. P y v) e x)

-- what the grammar bars, it bars within a limit
bars_in : (k : ℕ) (u q : List ℕ) → Barred Gives u q → Barred (GivesIn k) u q
bars_in k u q bar = barred_of (GivesIn k) u q (λ r al v x. none_of Gives u q bar r al v x.0)

one_place : (k : ℕ) (u q u' q' : List ℕ) → Completable (GivesIn k) u → Barred (GivesIn k) u q → Completable (GivesIn k) u' → Barred (GivesIn k) u' q' → Fork u q u' q' → q ≡ q'
one_place k u q u' q' via bar via' bar' (meet eu eq) = eq
one_place k u q u' q' via bar via' bar' (first c z w eq eu) = absurd (no_further (GivesIn k) u q u' c z w eq eu bar via')
one_place k u q u' q' via bar via' bar' (second c z w eq eu) = absurd (no_further (GivesIn k) u' q' u c z w eq eu bar' via)

module _ (k : ℕ) (s : List ℕ) where
  no_value_lem : (v : Value) (u q : List ℕ) → GivesIn k s v → s ≡ u ++ q → Barred (GivesIn k) u q → ⊥
  no_value_lem v u q x e bar = none_of (GivesIn k) u q bar q (alike_self q) v (subst (λ y. GivesIn k y v) e x)

  -- a bracket that is possible there is no fault
  not_both : (u q u' q' : List ℕ) → Faulty k u q → TooDeep k u' q' → Fork u q u' q' → ⊥
  not_both u q u' q' f d (meet eu eq) =
      let (t, v, bt, x) = d.may_stand in
      let e : (u' ++ d.bracket ∷ []) ++ t ≡ u ++ (d.bracket ∷ t) = append_assoc u' (d.bracket ∷ []) t ∙ ap (λ y. y ++ (d.bracket ∷ t)) (sym eu) in
      none_of Gives u q f.there (d.bracket ∷ t) (subst (λ y. Alike y (d.bracket ∷ t)) (sym (eq ∙ d.begins)) (t, refl)) v (subst (λ y. Gives y v) e x.0)
  not_both u q u' q' f d (first c z w eq eu) = no_further (GivesIn k) u q u' c z w eq eu (bars_in k u q f.there) d.before
  not_both u q u' q' f d (second c z w eq eu) = no_further (GivesIn k) u' q' u c z w eq eu d.there f.before

  pub one_outcome : (g h : Read Value) → Promise k s g → Promise k s h → g ≡ h
  one_outcome (got v q) (got w q') (e, x) (e', y) = ap (λ a. got a q) (one_value s v w x.0 y.0) ∙ ap (got w) (e ∙ sym e')
  one_outcome (got v q) (fault q') (e, x) (u, e', f) = absurd (no_value_lem v u q' x e' (bars_in k u q' f.there))
  one_outcome (got v q) (deep q') (e, x) (u, e', d) = absurd (no_value_lem v u q' x e' d.there)
  one_outcome (fault q) (got w q') (u, e, f) (e', y) = absurd (no_value_lem w u q y e (bars_in k u q f.there))
  one_outcome (fault q) (fault q') (u, e, f) (u', e', f') = ap fault (one_place k u q u' q' f.before (bars_in k u q f.there) f'.before (bars_in k u' q' f'.there) (fork u q u' q' (sym e ∙ e')))
  one_outcome (fault q) (deep q') (u, e, f) (u', e', d) = absurd (not_both u q u' q' f d (fork u q u' q' (sym e ∙ e')))
  one_outcome (deep q) (got w q') (u, e, d) (e', y) = absurd (no_value_lem w u q y e d.there)
  one_outcome (deep q) (fault q') (u, e, d) (u', e', f) = absurd (not_both u' q' u q f d (fork u' q' u q (sym e' ∙ e)))
  one_outcome (deep q) (deep q') (u, e, d) (u', e', d') = ap deep (one_place k u q u' q' d.before d.there d'.before d'.there (fork u q u' q' (sym e ∙ e')))

pub only_kept : (k : ℕ) (s : List ℕ) (g : Read Value) → Promise k s g → g ≡ literal k s
only_kept k s g x = one_outcome k s g (literal k s) x (kept k s)

-- ---- with positions for places
-- the position of what is left
abbrev pub placed : List ℕ → Read Value → Got ℕ Value
placed s (got v q) = got v (length s - length q)
placed s (fault q) = fault (length s - length q)
placed s (deep q) = deep (length s - length q)

-- what is left from a position on
abbrev pub leaving : List ℕ → Got ℕ Value → Read Value
leaving s (got v p) = got v (drop p s)
leaving s (fault p) = fault (drop p s)
leaving s (deep p) = deep (drop p s)

take-length : (u q : List ℕ) → take (length u) (u ++ q) ≡ u
take-length [] q = refl
take-length (b ∷ u) q = ap (λ y. b ∷ y) (take-length u q)

drop-length : (u q : List ℕ) → drop (length u) (u ++ q) ≡ q
drop-length [] q = refl
drop-length (b ∷ u) q = drop-length u q

module _ (s u q : List ℕ) (e : s ≡ u ++ q) where
  total : length s ≡ length u + length q
  total = ap length e ∙ length-append u q

  position : length s - length q ≡ length u
  position = omega (arith, total)

  position_in : length s - length q ≤ length s
  position_in = omega (arith, total)

  -- the text is split at that position
  split_there : (P : List ℕ → List ℕ → Type 0) → P u q → P (take (length s - length q) s) (drop (length s - length q) s)
  split_there P x = rw (position, e) (rw (take-length u q, drop-length u q) x)

pub to_positions : (k : ℕ) (s : List ℕ) (g : Read Value) → Promise k s g → PromiseAt k s (placed s g)
to_positions k s (got v q) (e, x) = (ap (λ y. length s - length y) e ∙ omega arith, x)
to_positions k s (fault q) (u, e, f) = (position_in s u q e, split_there s u q e (Faulty k) f)
to_positions k s (deep q) (u, e, d) = (position_in s u q e, split_there s u q e (TooDeep k) d)

of_positions : (k : ℕ) (s : List ℕ) (g : Got ℕ Value) → PromiseAt k s g → Promise k s (leaving s g)
of_positions k s (got v p) (e, x) = (rw e (drop_all s), x)
  where
    drop_all : (l : List ℕ) → drop (length l) l ≡ []
    drop_all [] = refl
    drop_all (b ∷ l) = drop_all l
of_positions k s (fault p) (le, f) = (take p s, sym (take-append-drop p s), f)
of_positions k s (deep p) (le, d) = (take p s, sym (take-append-drop p s), d)

pub kept_at : (k : ℕ) (s : List ℕ) → PromiseAt k s (placed s (literal k s))
kept_at k s = to_positions k s (literal k s) (kept k s)

-- within the text a position is known by what is left
placed_leaving : (k : ℕ) (s : List ℕ) (g : Got ℕ Value) → PromiseAt k s g → placed s (leaving s g) ≡ g
placed_leaving k s (got v p) (e, x) = let z : length s - length (drop p s) ≡ p = omega (arith, length-drop p s) in ap (got v) z
placed_leaving k s (fault p) (le, f) = let z : length s - length (drop p s) ≡ p = omega (arith, length-drop p s) in ap fault z
placed_leaving k s (deep p) (le, d) = let z : length s - length (drop p s) ≡ p = omega (arith, length-drop p s) in ap deep z

pub only_kept_at : (k : ℕ) (s : List ℕ) (g : Got ℕ Value) → PromiseAt k s g → g ≡ placed s (literal k s)
only_kept_at k s g x = sym (placed_leaving k s g x) ∙ ap (placed s) (only_kept k s (leaving s g) (of_positions k s g x))

pub one_outcome_at : (k : ℕ) (s : List ℕ) (g h : Got ℕ Value) → PromiseAt k s g → PromiseAt k s h → g ≡ h
one_outcome_at k s g h x y = only_kept_at k s g x ∙ sym (only_kept_at k s h y)
