-- Runs of plain bytes: a string that begins with such a run is the bytes of the run, followed by its pieces after the run. By recursion on the length of the run.
use Prim.Native.Nat.{ℕ, zero, suc, ◌+◌, ◌-◌, ◌<◌, ◌≤◌, suc-le-suc, zero-le}
use native.Mathlib.Omega.{arith}
use native.Mathlib.Numerals.{add-one}
use mathlib.Core.Path.{◌≡◌, refl, sym, ap, subst, ◌∙◌}
use mathlib.Core.List.{List, [], ◌∷◌, ◌++◌, append-nil}
use mathlib.Core.Bool.{Bool, true, false, ◌||◌, ◌&&◌, not, cond, or-false}
use lib.ListN.{length, get_or, take, drop, length-append, length-drop}
use lib.Seq.{append_snoc, drop-cons, get_or-drop, length-take-le}
use lib.Dec.{eqb, ltb}
use borrow.Author.Tests.{lt-ltb, le-ltb, ltb-true}
use Rattle.counts.proofs.Alike.{and_left, and_right, true_false}
use Rattle.literal_grammar.specs.Bytes.{is_break}
use Rattle.literal_bytes.proofs.Positions.{past_from}
use Rattle.literal_bytes.proofs.Positions.{run_within, past_within}
use Rattle.literal_escapes.proofs.Spelling.{byte_ahead, Along, along_start, along_close, along_bad, along_byte}
use Rattle.literal_bytes.specs.Text.{byte_at, part, run, past}
use Rattle.literal_escapes.specs.Strings.{escape_at, piece_by, piece_at, ends, spelled, scanned}
use Rattle.literal_bytes.specs.Plain.{is_plain}
use Rattle.literal_bytes.specs.declared.Parsed.TheVariants.{Value, Fault}
use Rattle.literal_escapes.specs.declared.Piece.TheVariants.{Close, Byte, Bad}

-- ---- the first byte of a run of known length, and the byte after it
run_step : (f : ℕ → Bool) (s : List ℕ) (at k : ℕ) → suc k ≡ run f (drop at s) → (at < length s) × (f (byte_at s at) ≡ true) × (k ≡ run f (drop (suc at) s))
unfolding run
run_step f [] zero k h = absurd (omega arith)
run_step f [] (suc at) k h = absurd (omega arith)
run_step f (x ∷ s) zero k h = go (f x) refl h
  where
    go : (t : Bool) → f x ≡ t → suc k ≡ elim t [ true ↦ suc (run f s) | false ↦ 0 ] → (0 < length (x ∷ s)) × (f x ≡ true) × (k ≡ run f s)
    go true e h = (suc-le-suc zero-le, e, omega arith)
    go false e h = absurd (omega arith)
run_step f (x ∷ s) (suc at) k h = let r = run_step f s at k h in (suc-le-suc r.0, r.1, r.2)

run_fails : (f : ℕ → Bool) (l : List ℕ) → run f l < length l → f (get_or l (run f l) 256) ≡ false
unfolding run
run_fails f [] h = absurd (omega arith)
run_fails f (b ∷ l) h = go (f b) refl h (run_fails f l)
  where
    go : (t : Bool) → f b ≡ t → elim t [ true ↦ suc (run f l) | false ↦ 0 ] < suc (length l) → (run f l < length l → f (get_or l (run f l) 256) ≡ false)
        → f (get_or (b ∷ l) (elim t [ true ↦ suc (run f l) | false ↦ 0 ]) 256) ≡ false
    go true e h ih = ih (omega arith)
    go false e h ih = e

-- ---- the byte decides
plain_by : {A : Type 0} (t u v : Bool) (x y z w : A) → not (t || u || v) ≡ true → (cond t x (cond u y (cond v z w)) ≡ w) × (v ≡ false)
plain_by true u v x y z w h = true_false (sym h)
plain_by false true v x y z w h = true_false (sym h)
plain_by false false true x y z w h = true_false (sym h)
plain_by false false false x y z w h = (refl, refl)

module _ (q : ℕ) (s : List ℕ) where
  plain_piece : (at : ℕ) → at < length s → is_plain q (byte_at s at) ≡ true → (piece_at q s at ≡ Byte (byte_at s at) (at + 1)) × (eqb (byte_at s at) 92 ≡ false)
  unfolding piece_at is_plain
  plain_piece at lt h =
      let p = plain_by (eqb (byte_at s at) q) (is_break (byte_at s at)) (eqb (byte_at s at) 92) (Close (at + 1)) (Bad at) (escape_at s (at + 1)) (Byte (byte_at s at) (at + 1)) h in
      (ap (λ (t : Bool). cond t (piece_by q s at) (Bad at)) (lt-ltb at (length s) lt) ∙ p.0, p.1)

  -- where a byte is not plain, a piece that is a byte is an escape
  escape_by : (at b p : ℕ) (i t u v : Bool) → not (t || u || v) ≡ false → cond i (cond t (Close (at + 1)) (cond u (Bad at) (cond v (escape_at s (at + 1)) (Byte (byte_at s at) (at + 1))))) (Bad at) ≡ Byte b p → v ≡ true
  escape_by at b p false t u v h e = absurd (let z : ◌≡◌ {A = ℕ} 0 1 = cc in omega arith)
  escape_by at b p true true u v h e = absurd (let z : ◌≡◌ {A = ℕ} 0 1 = cc in omega arith)
  escape_by at b p true false true v h e = absurd (let z : ◌≡◌ {A = ℕ} 0 1 = cc in omega arith)
  escape_by at b p true false false true h e = refl
  escape_by at b p true false false false h e = true_false h

  -- the byte where a run ends is no byte of it
  past_fails : (f : ℕ → Bool) (at : ℕ) → past f s at < length s → f (byte_at s (past f s at)) ≡ false
  unfolding past
  past_fails f at lt =
      let l = drop at s in
      let e : get_or l (run f l) 256 ≡ byte_at s (at + run f l) = get_or-drop at s (run f l) 256 in
      ap f (sym e) ∙ run_fails f l (omega (arith, length-drop at s))

  module _ (at to : ℕ) (h : to ≡ past (is_plain q) s at) where
    run_is : to - at ≡ run (is_plain q) (drop at s)
    unfolding past
    run_is = omega arith

    pub plain_from : at ≤ to
    plain_from = omega (arith, past_from (is_plain q) s at)

    pub plain_within : at ≤ length s → to ≤ length s
    plain_within le = omega (arith, past_within (is_plain q) s at le)

    -- n bytes, and those of the run
    pub plain_count : (us : List ℕ) (n : ℕ) → n ≡ length us → n + (to - at) ≡ length (us ++ part s at to)
    plain_count us n h =
        let e = length-take-le (to - at) (drop at s) (omega (arith, run_is, run_within (is_plain q) (drop at s))) in
        omega (arith, e, length-append us (part s at to))

    pub plain_escape : (b p : ℕ) → piece_at q s to ≡ Byte b p → eqb (byte_at s to) 92 ≡ true
    unfolding piece_at is_plain
    plain_escape b p e =
        let a = byte_ahead q s to b p e in
        let n : is_plain q (byte_at s to) ≡ false = subst (λ (x : ℕ). is_plain q (byte_at s x) ≡ false) (sym h) (past_fails (is_plain q) at (omega arith)) in
        escape_by to b p (ltb to (length s)) (eqb (byte_at s to) q) (is_break (byte_at s to)) (eqb (byte_at s to) 92) n e

  module _ (from : ℕ) where
    along_as : {at at' : ℕ} {us us' : List ℕ} {e e' : Bool} → at ≡ at' → us ≡ us' → e ≡ e' → Along q s from at us e → Along q s from at' us' e'
    along_as {at} {at'} {us} {us'} {e} {e'} ha hu he w =
        subst (λ (x : ℕ). Along q s from x us' e') ha (subst (λ (x : List ℕ). Along q s from at x e') hu (subst (λ (x : Bool). Along q s from at us x) he w))

    along_run : (k at : ℕ) (us : List ℕ) (e : Bool) → k ≡ run (is_plain q) (drop at s) → Along q s from at us e → Along q s from (at + k) (us ++ take k (drop at s)) e
    along_run zero at us e h w = along_as (omega arith) (sym (append-nil us)) refl w
    along_run (suc k) at us e h w =
        let r = run_step (is_plain q) s at k h in
        let b = byte_at s at in
        let p = plain_piece at r.0 r.1 in
        let one = along_as (add-one at) refl (ap (λ (x : Bool). e || x) p.1 ∙ or-false e) (along_byte q s from at us e b (at + 1) w p.0) in
        let more : (us ++ b ∷ []) ++ take k (drop (suc at) s) ≡ us ++ take (suc k) (drop at s) = append_snoc us b (take k (drop (suc at) s)) ∙ ap (λ (l : List ℕ). us ++ take (suc k) l) (sym (drop-cons s at 256 r.0)) in
        along_as (omega arith) more refl (along_run k (suc at) (us ++ b ∷ []) e r.2 one)

    -- the whole run
    pub along_plain : (at to : ℕ) (us : List ℕ) (e : Bool) → to ≡ past (is_plain q) s at → Along q s from at us e → Along q s from to (us ++ part s at to) e
    along_plain at to us e h w = along_as (omega (arith, plain_from at to h)) refl refl (along_run (to - at) at us e (run_is at to h) w)

  -- a run followed by the quote ends the string
  module _ (from to : ℕ) (h : to ≡ past (is_plain q) s from) (t : Bool) (said : t ≡ (ltb to (length s) && eqb (byte_at s to) q)) (yes : t ≡ true) where
    stood : (ltb to (length s) && eqb (byte_at s to) q) ≡ true
    stood = sym said ∙ yes

    pub plain_before : to < length s
    plain_before = ltb-true to (length s) (and_left (ltb to (length s)) (eqb (byte_at s to) q) stood)

    pub plain_string : spelled q s from ≡ record { bytes = part s from to; escape = false; ended = Value (to + 1) }
    unfolding piece_at
    plain_string =
        let p : piece_at q s to ≡ Close (to + 1) = rw (and_left (ltb to (length s)) (eqb (byte_at s to) q) stood, and_right (ltb to (length s)) (eqb (byte_at s to) q) stood) in
        along_close q s from to (part s from to) false (to + 1) (along_plain from from to [] false h (along_start q s from)) p

    pub plain_scan : record { ended = Value (to + 1); len = to - from; escape = false } ≡ scanned (spelled q s from)
    plain_scan = let n : to - from ≡ length (part s from to) = omega (arith, plain_count from to h [] 0 refl) in rw n (sym (ap scanned plain_string))

  -- a string that begins past the end has no bytes, and a fault there
  pub spelled_outside : (from : ℕ) → length s ≤ from → spelled q s from ≡ ends (Fault from)
  unfolding piece_at
  spelled_outside from le =
      along_bad q s from from [] false from (along_start q s from) (ap (λ (t : Bool). cond t (piece_by q s from) (Bad from)) (le-ltb from (length s) le))
