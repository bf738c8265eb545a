-- Laws of walks over entries: the step of one that goes back, and what one has found once each entry was tested.
use Prim.Native.Nat.{ℕ, zero, suc, ◌+◌, ◌-◌, ◌<◌, ◌≤◌}
use mathlib.Core.Path.{◌≡◌, refl, sym, ◌∙◌}
use mathlib.Core.Bool.{Bool, true, false, or-true}
use mathlib.Core.Logic.{⊎_elim}
use native.Mathlib.Omega.{arith}
use Rattle.counts.proofs.Alike.{true_false}
use Rattle.counts.proofs.Sides.{lt_or_ge}
use Rattle.dtype.specs.Seen.{some_from}

-- one more entry, going back
pub one_more : (P : ℕ → Type 0) (n e : ℕ) → 0 < e → ((c : ℕ) → e ≤ c → c < n → P c) → P (e - 1) → (c : ℕ) → e - 1 ≤ c → c < n → P c
one_more P n e p h k c l u =
    ⊎_elim (λ (q : c < e). let z : c ≡ e - 1 = omega arith in rw z k) (λ (q : e ≤ c). h c q u) (lt_or_ge c e)

module _ (test : ℕ → Bool) where
  some_none : (k e : ℕ) → ((c : ℕ) → e ≤ c → c < e + k → test c ≡ false) → some_from test k e ≡ false
  some_none zero e h = refl
  some_none (suc k) e h =
      simp (h e (omega arith) (omega arith), some_none k (suc e) (λ c l u. h c (omega arith) (omega arith)))

  some_one : (k e c : ℕ) → e ≤ c → c < e + k → test c ≡ true → some_from test k e ≡ true
  some_one zero e c l u p = absurd (omega arith)
  some_one (suc k) e c l u p =
      ⊎_elim
      (λ (q : e < c). simp (some_one k (suc e) c q (omega arith) p, or-true))
      (λ (q : c ≤ e). let z : c ≡ e = omega arith in simp (rw z at p))
      (lt_or_ge e c)

  -- none of the first n passes, or one does
  pub none_passes : (n : ℕ) → ((c : ℕ) → c < n → test c ≡ false) → false ≡ some_from test n 0
  none_passes n h = sym (some_none n 0 (λ c l u. h c (omega arith)))

  pub one_passes : (n c : ℕ) → c < n → test c ≡ true → true ≡ some_from test n 0
  one_passes n c l p = sym (some_one n 0 c (omega arith) (omega arith) p)

  pub none_back : (n c : ℕ) → some_from test n 0 ≡ false → c < n → test c ≡ false
  none_back n c h l = go (test c) refl
    where
      go : (b : Bool) → test c ≡ b → test c ≡ false
      go true e = true_false (one_passes n c l e ∙ h)
      go false e = e
