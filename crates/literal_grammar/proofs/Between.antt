-- What is between brackets, for lists, tuples and dicts alike: a law for each way out of the reader of things parted by commas, by how the text
-- is made up, and the claim of Faithful.antt for it. The reader has a bound on the number of things; each law holds for every bound above the length of the
-- text (`Rd`), so no later law meets a bound. The induction is on the length of what is left.
use Prim.Native.Nat.{ℕ, zero, suc, ◌<◌}
use native.Mathlib.Nat.{not-suc-le-zero}
use native.Mathlib.Omega.{arith}
use mathlib.Core.Path.{◌≡◌, refl, sym, ap, ◌∙◌, subst}
use mathlib.Core.Logic.{◌⊎◌, inl, inr}
use mathlib.Core.List.{List, [], ◌∷◌, ◌++◌, append_assoc}
use mathlib.Core.Bool.{Bool, true, false, ◌&&◌}
use lib.ListN.{length, length-append}
use lib.Dec.{eqb}
use borrow.Author.Tests.{eq-eqb}
use Rattle.decimal.specs.Decimal.{is_digit}
use Rattle.literal_grammar.specs.Bytes.{is_blank}
use Rattle.counts.specs.Lists.{AllBytes}
use Rattle.counts.proofs.Alike.{true_false}
use Rattle.literal_grammar.specs.Promise.{got, fault, deep}
use Rattle.literal_grammar.proofs.Texts.{case_of, Blanks, head_of, tail_of, head_is, Alike, alike_head, alike_cons, alike_on, gap}
use Rattle.literal_grammar.proofs.Layers.{padded, Parted, empty, last, more, Upto, upto}
use Rattle.literal_grammar.proofs.Reading.{Read, with, parted, up_to, Other, kind_of}
use Rattle.literal_grammar.proofs.Faithful.{By, Same, Faithful, moved, faithful_map, faithful_fault, faithful_deep}
use Rattle.literal_grammar.proofs.Tokens.{skips}

-- the conditions on a closing bracket
pub record Closes (c : ℕ) : Type 0 where
  pub blank : is_blank c ≡ false
  pub comma : eqb c 44 ≡ false
  pub digit : is_digit c ≡ false
  pub other : kind_of c ≡ Other
  pub small : c < 256

-- ---- the rules, with the closing bracket
module _ {A : Type 0} (R : List ℕ → A → Type 0) (c : ℕ) where
  abbrev pub To : Bool → List ℕ → List A → Type 0
  To lone = Upto c (Parted R lone)

  to_shut : (lone : Bool) (a : List ℕ) → Blanks a → To lone (a ++ (c ∷ [])) []
  to_shut lone a ba = upto a (empty a ba)

  to_last : (a x b : List ℕ) (v : A) → Blanks a → R x v → Blanks b → To true (a ++ (x ++ (b ++ (c ∷ [])))) (v ∷ [])
  to_last a x b v ba rx bb = subst (λ y. To true y (v ∷ [])) (simp append_assoc) (upto (a ++ (x ++ b)) (last (padded a x b ba rx bb)))

  to_more : (lone : Bool) (a x b w : List ℕ) (v : A) (vs : List A) → Blanks a → R x v → Blanks b → To true w vs → To lone (a ++ (x ++ (b ++ (44 ∷ w)))) (v ∷ vs)
  to_more lone a x b w v vs ba rx bb (upto w' i) = subst (λ y. To lone y (v ∷ vs)) (simp append_assoc) (upto ((a ++ (x ++ b)) ++ (44 ∷ w')) (more (padded a x b ba rx bb) i))

  -- a comma and the bracket complete it, whether or not it needs the comma
  to_one : (lone : Bool) (a x b : List ℕ) (v : A) → Blanks a → R x v → Blanks b → To lone (a ++ (x ++ (b ++ (44 ∷ c ∷ [])))) (v ∷ [])
  to_one lone a x b v ba rx bb = to_more lone a x b (c ∷ []) v [] ba rx bb (to_shut true [] tt)

-- ---- the reader
fails : {X : Type 0} (test : Bool) (x y : X) → test ≡ false → elim test [ true ↦ x | false ↦ y ] ≡ y
fails true x y h = true_false h
fails false x y h = refl

module _ {A : Type 0} (rd : List ℕ → Read A) (c : ℕ) (shuts : Closes c) where
  -- with any bound that is large enough
  abbrev pub Rd : Bool → List ℕ → Read (List A) → Type 0
  Rd lone s g = (m : ℕ) → length s < m → parted rd c lone m s ≡ g

  -- no blank, and not the closing bracket
  abbrev pub First : List ℕ → Type 0
  First t = (is_blank (head_of t) ≡ false) × (eqb (head_of t) c ≡ false)

  pub rd_shut : (lone : Bool) (s a r : List ℕ) → Blanks a → s ≡ a ++ (c ∷ r) → Rd lone s (got [] r)
  unfolding parted
  rd_shut lone s a r ba e zero lt = absurd (not-suc-le-zero lt)
  rd_shut lone s a r ba e (suc m) lt = let hs = skips s a (c ∷ r) ba shuts.blank e in rw (parted, hs, eq-eqb c c refl, hs)

  rd_fault : (lone : Bool) (s a t q : List ℕ) → Blanks a → First t → s ≡ a ++ t → rd t ≡ fault q → Rd lone s (fault q)
  unfolding parted
  rd_fault lone s a t q ba ft e h zero lt = absurd (not-suc-le-zero lt)
  rd_fault lone s a t q ba ft e h (suc m) lt = let hs = skips s a t ba ft.0 e in rw (parted, hs, ft.1, hs, h)

  rd_deep : (lone : Bool) (s a t q : List ℕ) → Blanks a → First t → s ≡ a ++ t → rd t ≡ deep q → Rd lone s (deep q)
  unfolding parted
  rd_deep lone s a t q ba ft e h zero lt = absurd (not-suc-le-zero lt)
  rd_deep lone s a t q ba ft e h (suc m) lt = let hs = skips s a t ba ft.0 e in rw (parted, hs, ft.1, hs, h)

  pub rd_last : (s a t b r : List ℕ) (v : A) → Blanks a → First t → Blanks b → s ≡ a ++ t → rd t ≡ got v (b ++ (c ∷ r)) → Rd true s (got (v ∷ []) r)
  unfolding parted
  rd_last s a t b r v ba ft bb e h zero lt = absurd (not-suc-le-zero lt)
  rd_last s a t b r v ba ft bb e h (suc m) lt =
      let hs = skips s a t ba ft.0 e in
      let hq = skips (b ++ (c ∷ r)) b (c ∷ r) bb shuts.blank refl in
      rw (parted, hs, ft.1, hs, h, hq, shuts.comma, hq, eq-eqb c c refl, hq)

  rd_stray : (lone : Bool) (s a t b z : List ℕ) (v : A) → Blanks a → First t → Blanks b → is_blank (head_of z) ≡ false → eqb (head_of z) 44 ≡ false → (lone && eqb (head_of z) c) ≡ false → s ≡ a ++ t → rd t ≡ got v (b ++ z) → Rd lone s (fault z)
  unfolding parted
  rd_stray lone s a t b z v ba ft bb nz n1 n2 e h zero lt = absurd (not-suc-le-zero lt)
  rd_stray lone s a t b z v ba ft bb nz n1 n2 e h (suc m) lt =
      let hs = skips s a t ba ft.0 e in
      let hq = skips (b ++ z) b z bb nz refl in
      rw (parted, hs, ft.1, hs, h, hq, n1, hq) (fails (lone && eqb (head_of z) c) _ _ n2 ∙ ap fault hq)

  pub rd_more : (lone : Bool) (s a t b w : List ℕ) (v : A) (g : Read (List A)) → Blanks a → First t → Blanks b → s ≡ a ++ t → rd t ≡ got v (b ++ (44 ∷ w)) → length w < length s → Rd true w g → Rd lone s (with (◌∷◌ v) g)
  unfolding parted is_blank
  rd_more lone s a t b w v g ba ft bb e h sm hw zero lt = absurd (not-suc-le-zero lt)
  rd_more lone s a t b w v g ba ft bb e h sm hw (suc m) lt =
      let hs = skips s a t ba ft.0 e in
      let hq = skips (b ++ (44 ∷ w)) b (44 ∷ w) bb refl refl in
      rw (parted, hs, ft.1, hs, h, hq, hq) (ap (with (◌∷◌ v)) (hw m (omega arith)))

  pub by_up_to : (lone : Bool) (s : List ℕ) (g : Read (List A)) → Rd lone s g → up_to rd c lone s ≡ g
  unfolding up_to
  by_up_to lone s g h = h (suc (length s)) (omega arith)

pub shorter : (a u b w : List ℕ) → length w < length (a ++ (u ++ (b ++ (44 ∷ w))))
shorter a u b w = omega (arith, length-append a (u ++ (b ++ (44 ∷ w))), length-append u (b ++ (44 ∷ w)), length-append b (44 ∷ w))

-- ---- the claim for it, if the reader of one thing meets the claim
module _ {A : Type 0} (R R⁺ : List ℕ → A → Type 0) (sub : (u : List ℕ) (v : A) → R u v → R⁺ u v) (rd : List ℕ → Read A) (rd_returned : (s : List ℕ) → Faithful R R⁺ (By rd) s) (c : ℕ) (shuts : Closes c) where
  abbrev Good : Bool → List ℕ → Type 0
  Good lone = Faithful (To R c lone) (To R⁺ c lone) (Rd rd c shuts lone)

  abbrev Begins : List ℕ → Type 0
  Begins = First rd c shuts

  begins_alike : (t y : List ℕ) → Alike t y → Begins t → Begins y
  begins_alike t y al ft = subst (λ x. (is_blank x ≡ false) × (eqb x c ≡ false)) (sym (alike_head t y al)) ft

  comma_bytes : AllBytes (44 ∷ c ∷ [])
  comma_bytes = (omega arith, (shuts.small, tt))

  -- a thing was read: blanks a, its text u, blanks b, and z is left
  module _ (lone : Bool) (a t u q b z : List ℕ) (v : A) (ba : Blanks a) (ft : Begins t) (eu : t ≡ u ++ q) (ru : R u v) (same : Same (By rd) u (got v) q) (bb : Blanks b) (ez : q ≡ b ++ z) (nz : is_blank (head_of z) ≡ false) where
    goes_on : (r : List ℕ) → Alike z r → Begins (u ++ (b ++ r)) × (rd (u ++ (b ++ r)) ≡ got v (b ++ r))
    goes_on r al =
        let al_q = alike_on q b z r ez al in
        (begins_alike t (u ++ (b ++ r)) (alike_on t u q (b ++ r) eu al_q) ft, same (b ++ r) al_q)

    -- its comma follows
    faithful_comma : z ≡ 44 ∷ tail_of z → Good true (tail_of z) → Good lone (a ++ t)
    faithful_comma hz ih =
        let p : List ℕ = a ++ (u ++ (b ++ (44 ∷ []))) in
        let e : a ++ t ≡ p ++ tail_of z = rw (eu, ez) (rw hz (simp append_assoc)) in
        moved (To R c lone) (To R⁺ c lone) (Rd rd c shuts lone) e
        (faithful_map (To R c true) (To R⁺ c true) (To R c lone) (To R⁺ c lone) (Rd rd c shuts true) (Rd rd c shuts lone) p (◌∷◌ v) (tail_of z)
        (λ w vs x. subst (λ y. To R c lone y (v ∷ vs)) (simp append_assoc) (to_more R c lone a u b w v vs ba ru bb x))
        (λ w vs x. subst (λ y. To R⁺ c lone y (v ∷ vs)) (simp append_assoc) (to_more R⁺ c lone a u b w v vs ba (sub u v ru) bb x))
        (λ w g al hw.
        let ep : p ++ w ≡ a ++ (u ++ (b ++ (44 ∷ w))) = simp append_assoc in
        let on = goes_on (44 ∷ w) (alike_cons 44 z w hz) in
        rd_more rd c shuts lone (p ++ w) a (u ++ (b ++ (44 ∷ w))) b w v g ba on.0 bb ep on.1 (subst (λ y. length w < length y) (sym ep) (shorter a u b w)) hw)
        ih)

    -- neither a comma nor the bracket where it may
    faithful_stray : eqb (head_of z) 44 ≡ false → (lone && eqb (head_of z) c) ≡ false → Good lone (a ++ t)
    faithful_stray n1 n2 =
        let p : List ℕ = a ++ (u ++ b) in (
          fault z,
          (
            p,
            rw (eu, ez) (simp append_assoc),
            (44 ∷ c ∷ [], v ∷ [], comma_bytes, subst (λ y. To R c lone y (v ∷ [])) (simp append_assoc) (to_one R c lone a u b v ba ru bb)),
            λ r al.
                let h = sym (alike_head z r al) in
                let on = goes_on r al in
                rd_stray rd c shuts lone (p ++ r) a (u ++ (b ++ r)) b r v ba on.0 bb (subst (λ x. is_blank x ≡ false) h nz) (subst (λ x. eqb x 44 ≡ false) h n1) (subst (λ x. (lone && eqb x c) ≡ false) h n2) (simp append_assoc) on.1,
          ),
        )

  -- the bracket follows a thing that may be the last
  faithful_last : (lone : Bool) (a t u q b z : List ℕ) (v : A) (ba : Blanks a) (ft : Begins t) (eu : t ≡ u ++ q) (ru : R u v) (same : Same (By rd) u (got v) q) (bb : Blanks b) (ez : q ≡ b ++ z) (nz : is_blank (head_of z) ≡ false) → eqb (head_of z) 44 ≡ false → ((lone && eqb (head_of z) c) ≡ true) ⊎ ((lone && eqb (head_of z) c) ≡ false) → Good lone (a ++ t)
  faithful_last lone a t u q b z v ba ft eu ru same bb ez nz n (inr h) = faithful_stray lone a t u q b z v ba ft eu ru same bb ez nz n h
  faithful_last false a t u q b z v ba ft eu ru same bb ez nz n (inl h) = true_false (sym h)
  faithful_last true a t u q b z v ba ft eu ru same bb ez nz n (inl h) =
      let hz = head_is z c shuts.small h in
      let p : List ℕ = a ++ (u ++ (b ++ (c ∷ []))) in (
        got (v ∷ []) (tail_of z),
        (
          p,
          rw (eu, ez) (rw hz (simp append_assoc)),
          to_last R c a u b v ba ru bb,
          λ r al. let on = goes_on true a t u q b z v ba ft eu ru same bb ez nz (c ∷ r) (alike_cons c z r hz) in rd_last rd c shuts (p ++ r) a (u ++ (b ++ (c ∷ r))) b r v ba on.0 bb (simp append_assoc) on.1,
        ),
      )

  faithful_thing : (lone : Bool) (m : ℕ) (a t : List ℕ) → length (a ++ t) < suc m → Blanks a → Begins t → Faithful R R⁺ (By rd) t → ((w : List ℕ) → length w < m → Good true w) → Good lone (a ++ t)
  faithful_thing lone m a t lt ba ft (got v q, (u, eu, ru, same)) ih =
      let (b, z, bb, ez, nz) = gap q in
      let below : z ≡ 44 ∷ tail_of z → length (tail_of z) < m = λ hz. omega (arith, shorter a u b (tail_of z), lt, ap length (eu ∙ ap (λ y. u ++ y) (ez ∙ ap (λ y. b ++ y) hz)), length-append a t, length-append a (u ++ (b ++ (44 ∷ tail_of z)))) in
      by_comma b z bb ez nz below (case_of (eqb (head_of z) 44))
    where
      by_comma : (b z : List ℕ) → Blanks b → q ≡ b ++ z → is_blank (head_of z) ≡ false → (z ≡ 44 ∷ tail_of z → length (tail_of z) < m) → (eqb (head_of z) 44 ≡ true) ⊎ (eqb (head_of z) 44 ≡ false) → Good lone (a ++ t)
      by_comma b z bb ez nz below (inl h) = let hz = head_is z 44 (omega arith) h in faithful_comma lone a t u q b z v ba ft eu ru same bb ez nz hz (ih (tail_of z) (below hz))
      by_comma b z bb ez nz below (inr h) = faithful_last lone a t u q b z v ba ft eu ru same bb ez nz h (case_of (lone && eqb (head_of z) c))
  faithful_thing lone m a t lt ba ft (fault q, x) ih =
      faithful_fault R R⁺ (To R c lone) (To R⁺ c lone) (By rd) (Rd rd c shuts lone) a (λ v. v ∷ []) (44 ∷ c ∷ []) t q comma_bytes
      (λ u v ru. to_one R c lone a u [] v ba ru tt) (λ y r al hy. rd_fault rd c shuts lone (a ++ y) a y r ba (begins_alike t y al ft) refl hy) x
  faithful_thing lone m a t lt ba ft (deep q, x) ih =
      faithful_deep R R⁺ (To R c lone) (To R⁺ c lone) (By rd) (Rd rd c shuts lone) a (λ v. v ∷ []) (44 ∷ c ∷ []) t q comma_bytes
      (λ u v ru. to_one R c lone a u [] v ba ru tt) (λ u v ru. to_one R⁺ c lone a u [] v ba ru tt) (λ y r al hy. rd_deep rd c shuts lone (a ++ y) a y r ba (begins_alike t y al ft) refl hy) x

  faithful_shut : (lone : Bool) (m : ℕ) (a t : List ℕ) → length (a ++ t) < suc m → Blanks a → is_blank (head_of t) ≡ false → (eqb (head_of t) c ≡ true) ⊎ (eqb (head_of t) c ≡ false) → ((w : List ℕ) → length w < m → Good true w) → Good lone (a ++ t)
  faithful_shut lone m a t lt ba nt (inl h) ih =
      let ht = head_is t c shuts.small h in
      (got [] (tail_of t), (a ++ (c ∷ []), ap (λ y. a ++ y) ht ∙ simp append_assoc, to_shut R c lone a ba, λ r al. rd_shut rd c shuts lone ((a ++ (c ∷ [])) ++ r) a r ba (simp append_assoc)))
  faithful_shut lone m a t lt ba nt (inr h) ih = faithful_thing lone m a t lt ba (nt, h) (rd_returned t) ih

  faithful_within : (m : ℕ) (lone : Bool) (s : List ℕ) → length s < m → Good lone s
  faithful_within zero lone s lt = absurd (not-suc-le-zero lt)
  faithful_within (suc m) lone s lt =
      let (a, t, ba, e, nt) = gap s in
      moved (To R c lone) (To R⁺ c lone) (Rd rd c shuts lone) e (faithful_shut lone m a t (subst (λ y. length y < suc m) e lt) ba nt (case_of (eqb (head_of t) c)) (faithful_within m true))

  pub faithful_parted : (lone : Bool) (s : List ℕ) → Faithful (To R c lone) (To R⁺ c lone) (Rd rd c shuts lone) s
  faithful_parted lone s = faithful_within (suc (length s)) lone s (omega arith)
