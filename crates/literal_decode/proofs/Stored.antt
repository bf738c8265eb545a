-- A list of bytes stored byte by byte.
use Prim.Native.Nat.{ℕ, suc, ◌+◌, ◌-◌, ◌<◌, ◌≤◌, min}
use native.Mathlib.Omega.{arith}
use native.Mathlib.Numerals.{add-one}
use mathlib.Core.Path.{◌≡◌, refl, sym, ap, ◌∙◌}
use mathlib.Core.List.{List, [], ◌∷◌, ◌++◌}
use native.Mathlib.Decide.{dec_lt}
use lib.ListN.{length, get_or, drop, set, drop_of_length-le}
use lib.Seq.{drop-cons, set_out, sets}

-- a store in a row, one byte of the run after the other: the rest is yet to be stored
pub stored_next : (out run : List ℕ) (at i : ℕ) → i < length run → sets (set out at (get_or run i 0)) (at + 1) (drop (i + 1) run) ≡ sets out at (drop i run)
stored_next out run at i lt = rw (add-one at, add-one i, drop-cons run i 0 lt)

-- an empty run stores nothing
pub stored_none : (out vs : List ℕ) (at : ℕ) → length vs ≤ 0 → out ≡ sets out at vs
stored_none out [] at le = refl
stored_none out (v ∷ vs) at le = absurd (omega arith)

-- past the end nothing is stored
pub stored_outside : (out vs : List ℕ) (at : ℕ) → length out ≤ at → out ≡ sets out at vs
stored_outside out [] at le = refl
stored_outside out (v ∷ vs) at le = stored_outside out vs (suc at) (omega arith) ∙ ap (λ (l : List ℕ). sets l (suc at) vs) (sym (set_out out at v le))

sets_append : (old us run : List ℕ) (i : ℕ) → sets old i (us ++ run) ≡ sets (sets old i us) (i + length us) run
sets_append old [] run i = ap (λ (k : ℕ). sets old k run) (omega arith)
sets_append old (u ∷ us) run i = sets_append (set old i u) us run (suc i) ∙ ap (λ (k : ℕ). sets (sets (set old i u) (suc i) us) k run) (omega arith)

-- as many stored as there are, or as have room: what is left of the run is not stored
pub stored_fit : (out run : List ℕ) (from i : ℕ) → min (length run) (length out - from) ≤ i → out ≡ sets out (from + i) (drop i run)
stored_fit out run from i h = elim (dec_lt i (length run)) [
  | yes k ↦ stored_outside out (drop i run) (from + i) (omega (arith, h, k))
  | no k ↦ rw (drop_of_length-le run {i = i} (omega arith))
]

-- more bytes stored after the bytes us; one byte is the run `b ∷ []`
pub stored_more : (old us run out : List ℕ) (n : ℕ) → n ≡ length us → out ≡ sets old 0 us → sets out n run ≡ sets old 0 (us ++ run)
stored_more old us run out n hn ho =
    let at : n ≡ 0 + length us = omega arith in
    ap (λ (l : List ℕ). sets l n run) ho ∙ ap (λ (k : ℕ). sets (sets old 0 us) k run) at ∙ sym (sets_append old us run 0)
