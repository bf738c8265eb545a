-- A dict's item: key, colon, value. A law for each way out of its reader, and the claim of Faithful.antt for it if the reader of a value meets it. A key alone can
-- always be completed, by a colon and `0`.
use Prim.Native.Nat.{ℕ}
use native.Mathlib.Omega.{arith}
use mathlib.Core.Path.{◌≡◌, refl, sym, ap, ◌∙◌, subst}
use mathlib.Core.Logic.{◌⊎◌, inl, inr}
use mathlib.Core.List.{List, [], ◌∷◌, ◌++◌, append_assoc}
use mathlib.Core.Bool.{true, false}
use lib.Dec.{eqb}
use Rattle.literal_grammar.specs.Bytes.{is_blank}
use Rattle.literal_grammar.specs.Value.{Value}
use Rattle.counts.specs.Lists.{AllBytes}
use Rattle.literal_grammar.specs.Promise.{got, fault, deep}
use Rattle.literal_grammar.proofs.Texts.{case_of, Blanks, head_of, tail_of, head_is, alike_head, alike_cons, alike_on, gap}
use Rattle.literal_grammar.proofs.Layers.{Pair, pair, item}
use Rattle.literal_grammar.proofs.Reading.{Read, with, paired}
use Rattle.literal_grammar.proofs.Faithful.{By, Same, Faithful, moved, faithful_map, faithful_fault, faithful_deep}
use Rattle.literal_grammar.proofs.Tokens.{skips}

module _ (rd : List ℕ → Read Value) where
  pair_fault : (s q : List ℕ) → rd s ≡ fault q → paired rd s ≡ fault q
  unfolding paired
  pair_fault s q h = rw (paired, h)

  pair_deep : (s q : List ℕ) → rd s ≡ deep q → paired rd s ≡ deep q
  unfolding paired
  pair_deep s q h = rw (paired, h)

  pair_stray : (s b z : List ℕ) (k : Value) → Blanks b → is_blank (head_of z) ≡ false → eqb (head_of z) 58 ≡ false → rd s ≡ got k (b ++ z) → paired rd s ≡ fault z
  unfolding paired
  pair_stray s b z k bb nz n h = let hq = skips (b ++ z) b z bb nz refl in rw (paired, h, hq, n, hq)

  pub pair_colon : (s b d t : List ℕ) (k : Value) (g : Read Value) → Blanks b → Blanks d → is_blank (head_of t) ≡ false → rd s ≡ got k (b ++ (58 ∷ (d ++ t))) → rd t ≡ g → paired rd s ≡ with (item k) g
  unfolding paired is_blank
  pair_colon s b d t k g bb bd nt h ht =
      let hq = skips (b ++ (58 ∷ (d ++ t))) b (58 ∷ (d ++ t)) bb refl refl in
      rw (paired, h, hq, hq, skips (d ++ t) d t bd nt refl, ht)

colon_bytes : AllBytes (58 ∷ (48 ∷ []))
colon_bytes = (omega arith, (omega arith, tt))

module _ (R R⁺ : List ℕ → Value → Type 0) (sub : (u : List ℕ) (v : Value) → R u v → R⁺ u v) (rd : List ℕ → Read Value) (rd_returned : (s : List ℕ) → Faithful R R⁺ (By rd) s)
    (zero_value : Value) (zero_text : R (48 ∷ []) zero_value) where
  abbrev Good : List ℕ → Type 0
  Good = Faithful (Pair R) (Pair R⁺) (By (paired rd))

  faithful_colon : (s u q b z : List ℕ) (k : Value) → s ≡ u ++ q → R u k → Same (By rd) u (got k) q → Blanks b → is_blank (head_of z) ≡ false → q ≡ b ++ z → (eqb (head_of z) 58 ≡ true) ⊎ (eqb (head_of z) 58 ≡ false) → Good s
  faithful_colon s u q b z k eu ru same bb nz ez (inl h) =
      let hz = head_is z 58 (omega arith) h in
      let (d, t, bd, et, nt) = gap (tail_of z) in
      let p : List ℕ = u ++ (b ++ (58 ∷ d)) in
      let e : s ≡ p ++ t = eu ∙ ap (λ y. u ++ y) (ez ∙ ap (λ y. b ++ y) (hz ∙ ap (λ y. 58 ∷ y) et)) ∙ simp append_assoc in
      moved (Pair R) (Pair R⁺) (By (paired rd)) e
      (faithful_map R R⁺ (Pair R) (Pair R⁺) (By rd) (By (paired rd)) p (item k) t
      (λ w v x. subst (λ y. Pair R y (item k v)) (simp append_assoc) (pair u b d w ru bb bd x))
      (λ w v x. subst (λ y. Pair R⁺ y (item k v)) (simp append_assoc) (pair u b d w (sub u k ru) bb bd x))
      (λ w g al hw.
      let ep : u ++ (b ++ (58 ∷ (d ++ w))) ≡ p ++ w = simp append_assoc in
      let hq = same (b ++ (58 ∷ (d ++ w))) (alike_on q b z (58 ∷ (d ++ w)) ez (alike_cons 58 z (d ++ w) hz)) in
      subst (λ y. paired rd y ≡ with (item k) g) ep (pair_colon rd (u ++ (b ++ (58 ∷ (d ++ w)))) b d w k g bb bd (subst (λ x. is_blank x ≡ false) (sym (alike_head t w al)) nt) hq hw))
      (rd_returned t))
  faithful_colon s u q b z k eu ru same bb nz ez (inr h) = (
    fault z,
    (
      u ++ b,
      eu ∙ ap (λ y. u ++ y) ez ∙ simp append_assoc,
      (58 ∷ (48 ∷ []), item k zero_value, colon_bytes, subst (λ y. Pair R y (item k zero_value)) (simp append_assoc) (pair u b [] (48 ∷ []) ru bb tt zero_text)),
      λ r al.
          let ep : u ++ (b ++ r) ≡ (u ++ b) ++ r = simp append_assoc in
          let hr = sym (alike_head z r al) in
          subst (λ y. paired rd y ≡ fault r) ep (pair_stray rd (u ++ (b ++ r)) b r k bb (subst (λ x. is_blank x ≡ false) hr nz) (subst (λ x. eqb x 58 ≡ false) hr h) (same (b ++ r) (alike_on q b z r ez al))),
    ),
  )

  faithful_key : (s : List ℕ) → Faithful R R⁺ (By rd) s → Good s
  faithful_key s (got k q, (u, eu, ru, same)) = let (b, z, bb, ez, nz) = gap q in faithful_colon s u q b z k eu ru same bb nz ez (case_of (eqb (head_of z) 58))
  faithful_key s (fault q, x) =
      faithful_fault R R⁺ (Pair R) (Pair R⁺) (By rd) (By (paired rd)) [] (λ k. item k zero_value) (58 ∷ (48 ∷ [])) s q colon_bytes
      (λ u k ru. pair u [] [] (48 ∷ []) ru tt tt zero_text) (λ y r al hy. pair_fault rd y r hy) x
  faithful_key s (deep q, x) =
      faithful_deep R R⁺ (Pair R) (Pair R⁺) (By rd) (By (paired rd)) [] (λ k. item k zero_value) (58 ∷ (48 ∷ [])) s q colon_bytes
      (λ u k ru. pair u [] [] (48 ∷ []) ru tt tt zero_text) (λ u k ru. pair u [] [] (48 ∷ []) ru tt tt (sub (48 ∷ []) zero_value zero_text)) (λ y r al hy. pair_deep rd y r hy) x

  pub faithful_pair : (s : List ℕ) → Faithful (Pair R) (Pair R⁺) (By (paired rd)) s
  faithful_pair s = faithful_key s (rd_returned s)
