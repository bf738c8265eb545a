-- The claim that every reader meets, `Faithful`: if it gives a value, the grammar gives it for the part that was read; if it refuses, the grammar
-- can complete the part before; and whatever continues alike after that part is read alike. The laws carry the claim from a part to the whole:
-- `faithful_map` if something comes before and the value is mapped to another, `faithful_fault` and `faithful_deep` if a part is refused.
use Prim.Native.Nat.{ℕ}
use mathlib.Core.Path.{◌≡◌, sym, subst}
use mathlib.Core.List.{List, [], ◌∷◌, ◌++◌, append_assoc, append-nil}
use mathlib.Core.Bool.{true}
use Rattle.literal_grammar.specs.Bytes.{is_open}
use Rattle.counts.specs.Lists.{AllBytes}
use Rattle.literal_grammar.specs.Promise.{Completable, got, fault, deep}
use Rattle.counts.proofs.AllBytes.{bytes_append}
use Rattle.literal_grammar.proofs.Texts.{head_of, Alike, alike_self, alike_on}
use Rattle.literal_grammar.proofs.Reading.{Read, with}

-- a reader as a relation: it reads the text as the outcome
abbrev pub By : {A : Type 0} → (List ℕ → Read A) → List ℕ → Read A → Type 0
By rd s g = rd s ≡ g

-- whatever follows u, the outcome is the same, if it continues as `rest` does
abbrev pub Same : {A : Type 0} → (List ℕ → Read A → Type 0) → List ℕ → (List ℕ → Read A) → List ℕ → Type 0
Same Rd u out rest = (r : List ℕ) → Alike rest r → Rd (u ++ r) (out r)

-- R is the grammar within a limit, R⁺ with one bracket more
abbrev pub Returns : {A : Type 0} → (R R⁺ : List ℕ → A → Type 0) → (List ℕ → Read A → Type 0) → List ℕ → Read A → Type 0
Returns R R⁺ Rd s (got v rest) = (u : List ℕ) × (s ≡ u ++ rest) × R u v × Same Rd u (got v) rest
Returns R R⁺ Rd s (fault rest) = (u : List ℕ) × (s ≡ u ++ rest) × Completable R u × Same Rd u fault rest
Returns R R⁺ Rd s (deep rest) = (u : List ℕ) × (s ≡ u ++ rest) × Completable R u × Completable R⁺ (u ++ (head_of rest ∷ [])) × (is_open (head_of rest) ≡ true) × Same Rd u deep rest

abbrev pub Faithful : {A : Type 0} → (R R⁺ : List ℕ → A → Type 0) → (List ℕ → Read A → Type 0) → List ℕ → Type 0
Faithful {A} R R⁺ Rd s = (g : Read A) × Returns R R⁺ Rd s g

pub reads : {A : Type 0} (R R⁺ : List ℕ → A → Type 0) (Rd : List ℕ → Read A → Type 0) (s : List ℕ) (g : Read A) → Returns R R⁺ Rd s g → Rd s g
reads R R⁺ Rd s (got v q) (u, e, x, same) = subst (λ y. Rd y (got v q)) (sym e) (same q (alike_self q))
reads R R⁺ Rd s (fault q) (u, e, x, same) = subst (λ y. Rd y (fault q)) (sym e) (same q (alike_self q))
reads R R⁺ Rd s (deep q) (u, e, x, y, o, same) = subst (λ z. Rd z (deep q)) (sym e) (same q (alike_self q))

pub moved : {A : Type 0} (R R⁺ : List ℕ → A → Type 0) (Rd : List ℕ → Read A → Type 0) {s t : List ℕ} → t ≡ s → Faithful R R⁺ Rd s → Faithful R R⁺ Rd t
moved R R⁺ Rd e x = subst (λ y. Faithful R R⁺ Rd y) (sym e) x

-- p in front of a thing, and another thing made of it
module _ {A B : Type 0} (R R⁺ : List ℕ → A → Type 0) (Q Q⁺ : List ℕ → B → Type 0) (Rd : List ℕ → Read A → Type 0) (Rd' : List ℕ → Read B → Type 0) (p : List ℕ) (f : A → B) where
  before : (S : List ℕ → A → Type 0) (T : List ℕ → B → Type 0) (end u : List ℕ) → AllBytes end → ((w : List ℕ) (v : A) → S w v → T (p ++ (w ++ end)) (f v)) → Completable S u → Completable T (p ++ u)
  before S T end u be up (t, v, bt, x) = (t ++ end, f v, bytes_append t end bt be, subst (λ y. T y (f v)) (simp append_assoc) (up (u ++ t) v x))

  onward : (s u q : List ℕ) (out : List ℕ → Read A) (out' : List ℕ → Read B) → s ≡ u ++ q → ((y r : List ℕ) → Alike s y → Rd y (out r) → Rd' (p ++ y) (out' r)) → Same Rd u out q → Same Rd' (p ++ u) out' q
  onward s u q out out' e on same r al = subst (λ y. Rd' y (out' r)) (sym (append_assoc p u r)) (on (u ++ r) r (alike_on s u q r e al) (same r al))

  parts : (s u q : List ℕ) → s ≡ u ++ q → p ++ s ≡ p ++ u ++ q
  parts s u q e = rw e (simp append_assoc)

  -- a refusal within a part is the refusal of the whole: `end` completes the whole once the part is complete
  pub faithful_fault : (end s q : List ℕ) → AllBytes end → ((u : List ℕ) (v : A) → R u v → Q (p ++ (u ++ end)) (f v))
      → ((y r : List ℕ) → Alike s y → Rd y (fault r) → Rd' (p ++ y) (fault r))
      → Returns R R⁺ Rd s (fault q) → Faithful Q Q⁺ Rd' (p ++ s)
  faithful_fault end s q be up on (u, e, via, same) = (fault q, (p ++ u, parts s u q e, before R Q end u be up via, onward s u q fault fault e on same))

  pub faithful_deep : (end s q : List ℕ) → AllBytes end → ((u : List ℕ) (v : A) → R u v → Q (p ++ (u ++ end)) (f v)) → ((u : List ℕ) (v : A) → R⁺ u v → Q⁺ (p ++ (u ++ end)) (f v))
      → ((y r : List ℕ) → Alike s y → Rd y (deep r) → Rd' (p ++ y) (deep r))
      → Returns R R⁺ Rd s (deep q) → Faithful Q Q⁺ Rd' (p ++ s)
  faithful_deep end s q be up up⁺ on (u, e, via, via⁺, o, same) =
      (deep q, (p ++ u, parts s u q e, before R Q end u be up via, subst (Completable Q⁺) (sym (append_assoc p u (head_of q ∷ []))) (before R⁺ Q⁺ end (u ++ (head_of q ∷ [])) be up⁺ via⁺), o, onward s u q deep deep e on same))

  pub faithful_map : (s : List ℕ) → ((u : List ℕ) (v : A) → R u v → Q (p ++ u) (f v)) → ((u : List ℕ) (v : A) → R⁺ u v → Q⁺ (p ++ u) (f v))
      → ((y : List ℕ) (g : Read A) → Alike s y → Rd y g → Rd' (p ++ y) (with f g))
      → Faithful R R⁺ Rd s → Faithful Q Q⁺ Rd' (p ++ s)
  faithful_map s up up⁺ on (got v q, (u, e, x, same)) = (got (f v) q, (p ++ u, parts s u q e, up u v x, onward s u q (got v) (got (f v)) e (λ y r al h. on y (got v r) al h) same))
  faithful_map s up up⁺ on (fault q, x) = faithful_fault [] s q tt (λ u v r. subst (λ y. Q (p ++ y) (f v)) (sym (append-nil u)) (up u v r)) (λ y r al h. on y (fault r) al h) x
  faithful_map s up up⁺ on (deep q, x) =
      faithful_deep [] s q tt (λ u v r. subst (λ y. Q (p ++ y) (f v)) (sym (append-nil u)) (up u v r)) (λ u v r. subst (λ y. Q⁺ (p ++ y) (f v)) (sym (append-nil u)) (up⁺ u v r)) (λ y r al h. on y (deep r) al h) x
