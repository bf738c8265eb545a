-- THE BYTE WITH WHICH THE OUTCOME COMES: the first bytes of a file bring it exactly where they reach the byte that is due, so that many bytes of the file are taken, or all.
use Prim.Native.Nat.{ℕ, ◌<◌, ◌≤◌, min}
use native.Mathlib.Omega.{arith}
use mathlib.Core.Path.{◌≡◌, refl, ap, sym, ◌∙◌}
use mathlib.Core.Logic.{◌⊎◌, ⊎_elim}
use mathlib.Core.List.{List, [], ◌++◌}
use mathlib.Core.Bool.{Bool, true, false, cond}
use lib.Dec.{ltb}
use lib.ListN.{length, take, drop, take-append-drop}
use lib.Seq.{take_all, take-take, length-take-le}
use borrow.Author.Tests.{lt-ltb, le-ltb, lt-leb, le-leb}
use Rattle.counts.specs.Outcome.{Outcome, gives, refused}
use Rattle.counts.proofs.Sides.{lt_or_ge}
use Rattle.record.specs.Prefix.{Prefix, text_start, data_start_of, prefix}
use Rattle.header_feed.specs.Due.{start_in, due_by, due, decided, used}
use Rattle.header_feed.proofs.Prefixes.{start_bounds, start_take, prefix_start, refused_stays, early_refused, four_reached, three_short, prefix_refusals, given_whole, given_stays}
use Rattle.header_feed.proofs.Decides.{short_undecided, three_undecided, other_decided, buffer_decided, end_decided, text_undecided}
use Rattle.header_feed.proofs.Verdicts.{Verdict, short, three, other, no_buffer, part_text, whole_text_lem, verdict, apart}
use Rattle.header_feed.proofs.Reached.{used_within, used_or, used_before}

-- the prefix of the first bytes of a file, as many as come before the text or more
front_start : (k : ℕ) (x : List ℕ) → 8 ≤ k → 8 ≤ length x → start_in x ≤ k → prefix (take k x) ≡ prefix x
front_start k x h l s =
    ⊎_elim
    (λ (m : length x < k). ap prefix (take_all k x (omega arith)))
    (λ (m : k ≤ length x).
    let n = length-take-le k x m in
    sym (prefix_start (take k x) (omega arith)) ∙ rw (start_take k x h, take-take (start_in x) k x s) (prefix_start x l))
    (lt_or_ge (length x) k)

pub due_is : (b : ℕ) (x : List ℕ) (o : Outcome Prefix) → prefix x ≡ o → due b x ≡ due_by b x o
unfolding due
due_is b x o e = rw (due, e)

module _ (b : ℕ) (file : List ℕ) (k : ℕ) (within : k ≤ length file) where
  len : length (take k file) ≡ k
  len = length-take-le k file within

  all : take k file ++ drop k file ≡ file
  all = take-append-drop k file

  -- the bytes that reach it bring the outcome
  pub due_reached : due b file ≤ k → decided b (take k file) ≡ true
  due_reached h = go (prefix file) refl (rw (due_is b file (prefix file) refl) at h)
    where
      refusal : (j : ℕ) → prefix file ≡ refused j → due_by b file (refused j) ≤ k → decided b (take k file) ≡ true
      refusal j e h =
          ⊎_elim
          (λ (c : (j ≡ 1) ⊎ (j ≡ 2)).
          let low : j ≤ 2 = ⊎_elim (λ (a : j ≡ 1). omega arith) (λ (a : j ≡ 2). omega arith) c in
          let eight : 8 ≤ k = rw (le-leb j 2 low) at h in
          let first : prefix (take 8 file) ≡ refused j = early_refused file j (omega arith) e c in
          let whole : take 8 (take k file) ++ drop 8 (take k file) ≡ take k file = take-append-drop 8 (take k file) in
          let len8 : length (take 8 file) ≡ 8 = length-take-le 8 file (omega arith) in
          let not_three : j ≡ 3 → ⊥ = λ q. omega arith in
          let on = refused_stays (take 8 file) (drop 8 (take k file)) j (omega arith) first not_three in
          other_decided b (take k file) j (omega (arith, len)) (rw (← (take-take 8 k file eight), whole) at on) not_three)
          (λ (c : (j ≡ 3) ⊎ (j ≡ 4)).
          let s : start_in file ≤ k = ⊎_elim (λ (a : j ≡ 3). rw (a) at h) (λ (a : j ≡ 4). rw (a) at h) c in
          let t = start_bounds file in
          ⊎_elim
          (λ (a : j ≡ 3). absurd (omega (arith, three_short file (omega arith) (rw a at e))))
          (λ (a : j ≡ 4). other_decided b (take k file) j (omega (arith, len)) (front_start k file (omega arith) (omega arith) s ∙ e) (λ q. omega arith))
          c)
          (prefix_refusals file j e)

      go : (o : Outcome Prefix) → prefix file ≡ o → due_by b file o ≤ k → decided b (take k file) ≡ true
      go (refused j) e h = refusal j e h
      go (gives p) e h =
          let w = given_whole file p e in
          let t = start_bounds file in
          let least : text_start p.version ≤ k = by_room (ltb b p.text_length) h in
          let here : prefix (take k file) ≡ gives p = front_start k file (omega (arith, w.starts)) w.long (omega (arith, w.starts)) ∙ e in
          ⊎_elim
          (λ (m : b < p.text_length). buffer_decided b (take k file) p here m)
          (λ (m : p.text_length ≤ b). end_decided b (take k file) p here (omega (arith, len, rw (le-ltb b p.text_length m) at h)))
          (lt_or_ge b p.text_length)
        where
          by_room : (s : Bool) → cond s (text_start p.version) (data_start_of p) ≤ k → text_start p.version ≤ k
          by_room true q = q
          by_room false q = omega arith

  -- bytes that bring the outcome reach it
  pub due_least : decided b (take k file) ≡ true → due b file ≤ k
  due_least d = go (verdict b (take k file))
    where
      given : (p : Prefix) → prefix (take k file) ≡ gives p → due b file ≡ due_by b file (gives p)
      given p e = due_is b file (gives p) (rw all at (given_stays (take k file) (drop k file) p e))

      go : Verdict b (take k file) → due b file ≤ k
      go (short h) = absurd (apart (decided b (take k file)) d (short_undecided b (take k file) h))
      go (three h e) = absurd (apart (decided b (take k file)) d (three_undecided b (take k file) e))
      go (other j h e n) =
          let q = due_is b file (refused j) (rw all at (refused_stays (take k file) (drop k file) j h e n)) in
          let eight : 8 ≤ k = omega (arith, len) in
          ⊎_elim
          (λ (c : (j ≡ 1) ⊎ (j ≡ 2)).
          let low : j ≤ 2 = ⊎_elim (λ (a : j ≡ 1). omega arith) (λ (a : j ≡ 2). omega arith) c in
          rw (q, le-leb j 2 low) eight)
          (λ (c : (j ≡ 3) ⊎ (j ≡ 4)).
          ⊎_elim
          (λ (a : j ≡ 3). absurd (n a))
          (λ (a : j ≡ 4).
          let r : start_in (take k file) ≤ k = rw len at (four_reached (take k file) (rw a at e)) in
          rw (q, lt-leb j 2 (omega arith), ← (start_take k file eight)) r)
          c)
          (prefix_refusals (take k file) j e)
      go (no_buffer p e h) = rw (given p e, lt-ltb b p.text_length h) (omega (arith, len, (given_whole (take k file) p e).reached))
      go (part_text p e h m) = absurd (apart (decided b (take k file)) d (text_undecided b (take k file) p e h m))
      go (whole_text_lem p e h m) = rw (given p e, le-ltb b p.text_length h) (omega (arith, len))

-- so many bytes of a file are taken
pub used_due : (b : ℕ) (file : List ℕ) → used b [] file ≡ min (due b file) (length file)
used_due b file =
    let u = used b [] file in
    let within : u ≤ length file = used_within b [] file in
    ⊎_elim
    (λ (h : length file < due b file).
    ⊎_elim
    (λ (e : u ≡ length file). omega arith)
    (λ (e : decided b (take u file) ≡ true). absurd (omega (arith, due_least b file u within e)))
    (used_or b [] file))
    (λ (h : due b file ≤ length file).
    let most : u ≤ due b file = ⊎_elim (λ (l : due b file < u). absurd (apart (decided b (take (due b file) file)) (due_reached b file (due b file) h (omega arith)) (used_before b [] file (due b file) l))) (λ (l : u ≤ due b file). l) (lt_or_ge (due b file) u) in
    ⊎_elim
    (λ (e : u ≡ length file). omega arith)
    (λ (e : decided b (take u file) ≡ true). omega (arith, due_least b file u within e))
    (used_or b [] file))
    (lt_or_ge (length file) (due b file))
