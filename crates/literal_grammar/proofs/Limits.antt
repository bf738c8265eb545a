-- A reading that is not refused for its nesting is the same where one bracket more may be open: both readers make the same tests, and go apart only
-- where the narrower one is refused by 7.
use Prim.Native.Nat.{ℕ, zero, suc, ◌+◌}
use mathlib.Core.Path.{◌≡◌, refl, sym, ap, subst}
use mathlib.Core.Logic.{◌⊎◌, inl, inr}
use mathlib.Core.List.{List, ◌∷◌}
use mathlib.Core.Bool.{Bool, true, false, ◌&&◌}
use lib.ListN.{length}
use lib.Dec.{eqb}
use Rattle.literal_grammar.specs.Value.{Value}
use Rattle.literal_grammar.specs.Promise.{got, fault, deep}
use Rattle.literal_grammar.proofs.Texts.{case_of, head_of, tail_of}
use Rattle.literal_grammar.proofs.Layers.{item, list_of, tuple_of, dict_of, raise}
use Rattle.literal_grammar.proofs.Reading.{Read, with, skip, parted, up_to, paired, Shape, Square, Round, Curly, bracketed, Kind, Digit, Quote, Minus, Other, Word, Opens, kind_of, chosen, value, alone, literal}

abbrev Keeps : {A : Type 0} → Read A → Read A → Type 0
Keeps (got v r) h = h ≡ got v r
Keeps (fault r) h = h ≡ fault r
Keeps (deep r) h = Unit {0}

keeps_self : {A : Type 0} (g : Read A) → Keeps g g
keeps_self (got v r) = refl
keeps_self (fault r) = refl
keeps_self (deep r) = tt

keeps_with : {A B : Type 0} (f : A → B) (g h : Read A) → Keeps g h → Keeps (with f g) (with f h)
keeps_with f (got v r) h e = ap (with f) e
keeps_with f (fault r) h e = ap (with f) e
keeps_with f (deep r) h e = tt

module _ {A : Type 0} (rd rd⁺ : List ℕ → Read A) (keeps : (s : List ℕ) → Keeps (rd s) (rd⁺ s)) (c : ℕ) where
  abbrev Kept : Bool → ℕ → List ℕ → Type 0
  Kept lone m s = Keeps (parted rd c lone m s) (parted rd⁺ c lone m s)

  by_bracket : (lone : Bool) (m : ℕ) (s q : List ℕ) (v : A) → eqb (head_of (skip s)) c ≡ false → rd (skip s) ≡ got v q → rd⁺ (skip s) ≡ got v q → eqb (head_of (skip q)) 44 ≡ false → ((lone && eqb (head_of (skip q)) c) ≡ true) ⊎ ((lone && eqb (head_of (skip q)) c) ≡ false) → Kept lone (suc m) s
  unfolding parted
  by_bracket lone m s q v h hg k h2 (inl h3) = rw (parted, h, hg, k, h2, h3) refl
  by_bracket lone m s q v h hg k h2 (inr h3) = rw (parted, h, hg, k, h2, h3) refl

  by_comma : (lone : Bool) (m : ℕ) (s q : List ℕ) (v : A) → eqb (head_of (skip s)) c ≡ false → rd (skip s) ≡ got v q → rd⁺ (skip s) ≡ got v q → (eqb (head_of (skip q)) 44 ≡ true) ⊎ (eqb (head_of (skip q)) 44 ≡ false) → Kept true m (tail_of (skip q)) → Kept lone (suc m) s
  unfolding parted
  by_comma lone m s q v h hg k (inl h2) ih = rw (parted, h, hg, k, h2) (keeps_with (◌∷◌ v) (parted rd c true m (tail_of (skip q))) (parted rd⁺ c true m (tail_of (skip q))) ih)
  by_comma lone m s q v h hg k (inr h2) ih = by_bracket lone m s q v h hg k h2 (case_of (lone && eqb (head_of (skip q)) c))

  by_thing : (lone : Bool) (m : ℕ) (s : List ℕ) → eqb (head_of (skip s)) c ≡ false → (g : Read A) → rd (skip s) ≡ g → Keeps g (rd⁺ (skip s)) → ((w : List ℕ) → Kept true m w) → Kept lone (suc m) s
  unfolding parted
  by_thing lone m s h (got v q) hg k ih = by_comma lone m s q v h hg k (case_of (eqb (head_of (skip q)) 44)) (ih (tail_of (skip q)))
  by_thing lone m s h (fault q) hg k ih = rw (parted, h, hg, k) refl
  by_thing lone m s h (deep q) hg k ih = rw (parted, h, hg) tt

  by_shut : (lone : Bool) (m : ℕ) (s : List ℕ) → (eqb (head_of (skip s)) c ≡ true) ⊎ (eqb (head_of (skip s)) c ≡ false) → ((w : List ℕ) → Kept true m w) → Kept lone (suc m) s
  unfolding parted
  by_shut lone m s (inl h) ih = rw (parted, h) refl
  by_shut lone m s (inr h) ih = by_thing lone m s h (rd (skip s)) refl (keeps (skip s)) ih

  keeps_parted : (m : ℕ) (lone : Bool) (s : List ℕ) → Kept lone m s
  unfolding parted
  keeps_parted zero lone s = refl
  keeps_parted (suc m) lone s = by_shut lone m s (case_of (eqb (head_of (skip s)) c)) (keeps_parted m true)

  keeps_up_to : (lone : Bool) (s : List ℕ) → Keeps (up_to rd c lone s) (up_to rd⁺ c lone s)
  unfolding up_to
  keeps_up_to lone s = keeps_parted (suc (length s)) lone s

module _ (rd rd⁺ : List ℕ → Read Value) (keeps : (s : List ℕ) → Keeps (rd s) (rd⁺ s)) where
  by_colon : (s q : List ℕ) (k : Value) → rd s ≡ got k q → rd⁺ s ≡ got k q → (eqb (head_of (skip q)) 58 ≡ true) ⊎ (eqb (head_of (skip q)) 58 ≡ false) → Keeps (paired rd s) (paired rd⁺ s)
  unfolding paired
  by_colon s q k hg e (inl h) = let t : List ℕ = skip (tail_of (skip q)) in rw (paired, hg, e, h) (keeps_with (item k) (rd t) (rd⁺ t) (keeps t))
  by_colon s q k hg e (inr h) = rw (paired, hg, e, h) refl

  by_key : (s : List ℕ) (g : Read Value) → rd s ≡ g → Keeps g (rd⁺ s) → Keeps (paired rd s) (paired rd⁺ s)
  unfolding paired
  by_key s (got k q) hg e = by_colon s q k hg e (case_of (eqb (head_of (skip q)) 58))
  by_key s (fault q) hg e = rw (paired, hg, e) refl
  by_key s (deep q) hg e = rw (paired, hg) tt

  keeps_paired : (s : List ℕ) → Keeps (paired rd s) (paired rd⁺ s)
  keeps_paired s = by_key s (rd s) refl (keeps s)

  keeps_bracketed : (h : Shape) (s : List ℕ) → Keeps (bracketed rd h s) (bracketed rd⁺ h s)
  unfolding bracketed
  keeps_bracketed Square s = keeps_with list_of (up_to rd 93 true s) (up_to rd⁺ 93 true s) (keeps_up_to rd rd⁺ keeps 93 true s)
  keeps_bracketed Round s = keeps_with tuple_of (up_to rd 41 false s) (up_to rd⁺ 41 false s) (keeps_up_to rd rd⁺ keeps 41 false s)
  keeps_bracketed Curly s = keeps_with dict_of (up_to (paired rd) 125 true s) (up_to (paired rd⁺) 125 true s) (keeps_up_to (paired rd) (paired rd⁺) keeps_paired 125 true s)

keeps_chosen : (κ : Kind) (s : List ℕ) (f g : Shape → Read Value) → ((h : Shape) → Keeps (f h) (g h)) → Keeps (chosen κ s f) (chosen κ s g)
keeps_chosen Digit s f g k = keeps_self (chosen Digit s f)
keeps_chosen Quote s f g k = keeps_self (chosen Quote s f)
keeps_chosen Minus s f g k = keeps_self (chosen Minus s f)
keeps_chosen Other s f g k = refl
keeps_chosen (Word v w) s f g k = keeps_self (chosen (Word v w) s f)
keeps_chosen (Opens h) s f g k = k h

keeps_value : (k : ℕ) (s : List ℕ) → Keeps (value k s) (value (suc k) s)
unfolding value
keeps_value zero s = keeps_chosen (kind_of (head_of s)) s (λ h. deep s) (λ h. bracketed (value zero) h (tail_of s)) (λ h. tt)
keeps_value (suc k) s =
    keeps_chosen (kind_of (head_of s)) s (λ h. bracketed (value k) h (tail_of s)) (λ h. bracketed (value (suc k)) h (tail_of s)) (λ h. keeps_bracketed (value k) (value (suc k)) (keeps_value k) h (tail_of s))

keeps_alone : {A : Type 0} (g h : Read A) → Keeps g h → Keeps (alone g) (alone h)
unfolding alone
keeps_alone (got v r) h e = subst (λ x. Keeps (alone (got v r)) (alone x)) (sym e) (keeps_self (alone (got v r)))
keeps_alone (fault r) h e = subst (λ x. Keeps (alone (fault r)) (alone x)) (sym e) refl
keeps_alone (deep r) h e = tt

keeps_literal : (k : ℕ) (s : List ℕ) → Keeps (literal k s) (literal (suc k) s)
unfolding literal
keeps_literal k s = keeps_alone (value k (skip s)) (value (suc k) (skip s)) (keeps_value k (skip s))

-- so a fault is one at every wider limit
pub fault_wider : (s q : List ℕ) (k j : ℕ) → literal k s ≡ fault q → literal (j + k) s ≡ fault q
fault_wider s q = raise (λ n. literal n s ≡ fault q) (λ n h. subst (λ g. Keeps g (literal (suc n) s)) h (keeps_literal n s))
