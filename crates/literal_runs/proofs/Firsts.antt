-- The first byte of a block that a test finds, looked for in one pass over the whole block; and the run of bytes that continues where none was found.
use Prim.Native.Nat.{ℕ, zero, suc, ◌+◌, ◌-◌, ◌<◌, ◌≤◌}
use native.Mathlib.Omega.{arith}
use native.Mathlib.Decide.{dec_lt}
use native.Mathlib.Numerals.{add-one}
use mathlib.Core.Path.{◌≡◌, refl, sym, ap, ◌∙◌}
use mathlib.Core.List.{List, [], ◌∷◌}
use mathlib.Core.Bool.{Bool, true, false, ◌&&◌, not, cond, or-true}
use lib.ListN.{length, get_or, take, drop, drop_of_length-le}
use lib.Seq.{drop-cons, drop-drop}
use lib.Dec.{eqb, ltb}
use borrow.Author.Tests.{lt-ltb, le-ltb, ltb-false, ne_eqb, not-true}
use Rattle.counts.proofs.Alike.{and_right, or_none}
use Rattle.literal_grammar.specs.Bytes.{is_break}
use Rattle.literal_bytes.proofs.Positions.{past_stop}
use Rattle.literal_bytes.specs.Text.{byte_at, part, run, past}
use Rattle.literal_bytes.specs.Plain.{is_plain}
use Rattle.literal_runs.specs.Low.{is_low, is_high}

-- the lesser of two numbers, where it is known which that is
lesser_first : (a b c : ℕ) → c ≡ cond (ltb a b) a b → a < b → c ≡ a
lesser_first a b c h lt = h ∙ rw (lt-ltb a b lt)

lesser_second : (a b c : ℕ) → c ≡ cond (ltb a b) a b → b ≤ a → c ≡ b
lesser_second a b c h le = h ∙ rw (le-ltb a b le)

module _ (g : ℕ → Bool) (l : List ℕ) where
  -- how many bytes come before the first that g finds
  abbrev before : List ℕ → ℕ
  before = run (λ b. not (g b))

  -- of the first i bytes of a block of 16 the first that g finds is at `first`; or there is none
  pub record Found (i first : ℕ) : Type 0 where
    pub few : first ≤ 16
    pub found : first < i → before l ≡ first
    pub none : i ≤ first → (first ≡ 16) × (before l ≡ i + before (drop i l))

  pub found_none : Found 0 16
  found_none = record { few = omega arith; found = λ h. absurd (omega arith); none = λ h. (refl, omega arith) }

  module _ (i first place first' : ℕ) (lt : i < 16) (size : length l ≡ 16) (p : place ≡ cond (g (get_or l i 0)) i 16) (n : first' ≡ cond (ltb first place) first place) (w : Found i first) where
    run_at : (t : Bool) → g (get_or l i 0) ≡ t → before (drop i l) ≡ cond t 0 (suc (before (drop (suc i) l)))
    unfolding run
    run_at true e = rw (drop-cons l i 0 (omega (arith, size)), run, e)
    run_at false e = rw (drop-cons l i 0 (omega (arith, size)), run, e)

    place_at : (t : Bool) → g (get_or l i 0) ≡ t → place ≡ cond t i 16
    place_at t e = p ∙ ap (λ (x : Bool). cond x i 16) e

    -- found before: the place is after it
    earlier : i ≤ place → first < i → Found (i + 1) first'
    earlier le h =
        let e = lesser_first first place first' n (omega (arith, le)) in
        let k = w.found h in
        record { few = omega (arith, w.few, e); found = λ x. omega (arith, e, k); none = λ x. absurd (omega (arith, e)) }

    now_found : g (get_or l i 0) ≡ true → i ≤ first → Found (i + 1) first'
    now_found e h =
        let q = place_at true e in
        let f = lesser_second first place first' n (omega (arith, q)) in
        let k = w.none h in
        let r = run_at true e in
        record { few = omega (arith, q, f); found = λ x. omega (arith, q, f, k.1, r); none = λ x. absurd (omega (arith, q, f)) }

    not_yet : g (get_or l i 0) ≡ false → i ≤ first → Found (i + 1) first'
    not_yet e h =
        let q = place_at false e in
        let k = w.none h in
        let f = lesser_second first place first' n (omega (arith, q, k.0)) in
        let r = run_at false e in
        record { few = omega (arith, q, f); found = λ x. absurd (omega (arith, q, f, x)); none = λ x. (omega (arith, q, f), rw (add-one i) (omega (arith, k.1, r))) }

    pub found_more : Found (i + 1) first'
    found_more = go (g (get_or l i 0)) refl
      where
        go : (t : Bool) → g (get_or l i 0) ≡ t → Found (i + 1) first'
        go true e = elim (dec_lt first i) [ yes h ↦ earlier (omega (arith, place_at true e)) h | no h ↦ now_found e (omega arith) ]
        go false e = elim (dec_lt first i) [ yes h ↦ earlier (omega (arith, place_at false e)) h | no h ↦ not_yet e (omega arith) ]

  pub found_end : (i first : ℕ) → 16 ≤ i → length l ≡ 16 → Found i first → first ≡ before l
  unfolding run
  found_end i first le size w =
      let d : drop i l ≡ [] = drop_of_length-le l {i = i} (omega (arith, size)) in
      let z : before (drop i l) ≡ 0 = rw d in
      elim (dec_lt first i) [ yes h ↦ sym (w.found h) | no h ↦ let k = w.none (omega arith) in omega (arith, w.few, k.0, k.1, z) ]

-- ---- bytes that are not low, in a string after a quote below `(`
module _ (f g : ℕ → Bool) (so : (b : ℕ) → f b ≡ true → g b ≡ true) where
  run_on : (k : ℕ) (l : List ℕ) → run g l ≡ run f (take k l) + run g (drop (run f (take k l)) l)
  unfolding run
  run_on zero l = omega arith
  run_on (suc k) [] = omega arith
  run_on (suc k) (b ∷ l) = go (f b) refl (run_on k l)
    where
      go : (t : Bool) → f b ≡ t → run g l ≡ run f (take k l) + run g (drop (run f (take k l)) l) → run g (b ∷ l) ≡ run f (b ∷ take k l) + run g (drop (run f (b ∷ take k l)) (b ∷ l))
      go true e h = rw (run, e, so b e) (omega (arith, h))
      go false e h = rw (run, e) (omega arith)

  -- the run of the weaker test continues after that of the stronger one
  past_on : (s : List ℕ) (from to n : ℕ) → n ≡ run f (part s from to) → past g s from ≡ past g s (from + n)
  unfolding past
  past_on s from to n h = let e = run_on (to - from) (drop from s) in omega (arith, e, ap (λ (m : ℕ). run g (drop m (drop from s))) h, ap (run g) (drop-drop n from s))

high_plain : (q b : ℕ) → q ≤ 39 → is_high b ≡ true → is_plain q b ≡ true
unfolding is_low is_plain is_break
high_plain q b le h =
    let o = or_none (ltb b 40) (eqb b 92) (not-true (is_low b) h) in
    let ge = ltb-false b 40 o.0 in
    rw (ne_eqb b q (λ e. omega arith), ne_eqb b 10 (λ e. omega arith), ne_eqb b 13 (λ e. omega arith), o.1)

module _ (q : ℕ) (s : List ℕ) (from to n : ℕ) (le : q ≤ 39) (h : n ≡ run is_high (part s from to)) where
  pub high_on : past (is_plain q) s from ≡ past (is_plain q) s (from + n)
  high_on = past_on is_high (is_plain q) (λ b. high_plain q b le) s from to n h

  -- the quote ends it
  pub high_to : (t : Bool) → t ≡ (ltb (from + n) (length s) && eqb (byte_at s (from + n)) q) → t ≡ true → from + n ≡ past (is_plain q) s from
  unfolding is_plain
  high_to t said so = sym (high_on ∙ past_stop (is_plain q) s (from + n) (rw (and_right (ltb (from + n) (length s)) (eqb (byte_at s (from + n)) q) (sym said ∙ so))))

-- no run begins with a backslash
pub backslash_stops : (q : ℕ) (s : List ℕ) (at : ℕ) (t : Bool) → t ≡ (ltb at (length s) && eqb (byte_at s at) 92) → t ≡ true → at ≡ past (is_plain q) s at
unfolding is_plain
backslash_stops q s at t said so =
    let b = and_right (ltb at (length s)) (eqb (byte_at s at) 92) (sym said ∙ so) in
    sym (past_stop (is_plain q) s at (rw (b, or-true)))
