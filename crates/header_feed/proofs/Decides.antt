-- Whether the outcome comes with the bytes taken so far, and how many bytes of a part are taken until it comes.
use Prim.Native.Nat.{ℕ, zero, suc, ◌+◌, ◌<◌, ◌≤◌}
use native.Mathlib.Omega.{arith}
use mathlib.Core.Path.{◌≡◌, refl}
use mathlib.Core.List.{List, [], ◌∷◌, ◌++◌, append_assoc, append-nil}
use mathlib.Core.Bool.{Bool, true, false, cond}
use mathlib.Core.Logic.{◌⊎◌, ⊎_elim}
use lib.Dec.{ltb}
use lib.ListN.{length, take, drop}
use borrow.Author.Tests.{lt-ltb, le-ltb, lt-leb, le-leb}
use Rattle.counts.specs.Outcome.{Outcome, gives, refused}
use Rattle.counts.proofs.Sides.{lt_or_ge}
use Rattle.record.specs.Prefix.{Prefix, text_start, data_start_of, prefix}
use Rattle.header_prefix.proofs.Bytes.{short_is_1}
use Rattle.header_feed.specs.Due.{due_by, due, decided, used}
use Rattle.header_feed.proofs.Prefixes.{three_short, four_reached, prefix_refusals, given_whole}

-- ---- whether the outcome comes with these bytes
module _ (b : ℕ) (x : List ℕ) where
  -- by the prefix, and by the byte with which it comes
  reached_by : (o : Outcome Prefix) → prefix x ≡ o → due_by b x o ≤ length x → decided b x ≡ true
  unfolding decided due
  reached_by o e h = rw (decided, due, e) (le-leb (due_by b x o) (length x) h)

  waiting_by : (o : Outcome Prefix) → prefix x ≡ o → length x < due_by b x o → decided b x ≡ false
  unfolding decided due
  waiting_by o e h = rw (decided, due, e) (lt-leb (due_by b x o) (length x) h)

  pub short_undecided : length x < 8 → decided b x ≡ false
  short_undecided h = waiting_by (refused 1) (short_is_1 x h) (omega (arith, h))

  pub three_undecided : prefix x ≡ refused 3 → decided b x ≡ false
  three_undecided e = ⊎_elim short_undecided (λ (h : 8 ≤ length x). waiting_by (refused 3) e (three_short x h e)) (lt_or_ge (length x) 8)

  pub other_decided : (k : ℕ) → 8 ≤ length x → prefix x ≡ refused k → (k ≡ 3 → ⊥) → decided b x ≡ true
  other_decided k h e n =
      ⊎_elim
      (λ (l : (k ≡ 1) ⊎ (k ≡ 2)). reached_by (refused k) e (rw (le-leb k 2 (⊎_elim (λ (m : k ≡ 1). omega arith) (λ (m : k ≡ 2). omega arith) l)) h))
      (λ (l : (k ≡ 3) ⊎ (k ≡ 4)). ⊎_elim (λ (m : k ≡ 3). absurd (n m)) (λ (m : k ≡ 4). reached_by (refused k) e (rw (lt-leb k 2 (omega arith)) (four_reached x (rw m at e)))) l)
      (prefix_refusals x k e)

  module _ (p : Prefix) (e : prefix x ≡ gives p) where
    pub buffer_decided : b < p.text_length → decided b x ≡ true
    buffer_decided l = reached_by (gives p) e (rw (lt-ltb b p.text_length l) (given_whole x p e).reached)

    pub end_decided : data_start_of p ≤ length x → decided b x ≡ true
    end_decided l = reached_by (gives p) e (at_most (ltb b p.text_length))
      where
        at_most : (s : Bool) → cond s (text_start p.version) (data_start_of p) ≤ length x
        at_most true = (given_whole x p e).reached
        at_most false = l

    pub text_undecided : p.text_length ≤ b → length x < data_start_of p → decided b x ≡ false
    text_undecided r l = waiting_by (gives p) e (rw (le-ltb b p.text_length r) l)

-- ---- how many bytes are taken
pub used_stop : (b : ℕ) (x part : List ℕ) → decided b x ≡ true → used b x part ≡ 0
used_stop b x [] h = refl
used_stop b x (y ∷ part) h = rw h

-- bytes before which nothing is decided are taken
pub used_go : (b : ℕ) (x part : List ℕ) (n : ℕ) → n ≤ length part → ((j : ℕ) → j < n → decided b (x ++ take j part) ≡ false) → used b x part ≡ n + used b (x ++ take n part) (drop n part)
used_go b x part zero h u = rw (append-nil x) (omega arith)
used_go b x [] (suc n) h u = absurd (omega arith)
used_go b x (y ∷ part) (suc n) h u =
    let now : decided b x ≡ false = rw (append-nil x) at (u 0 (omega arith)) in
    let r = used_go b (x ++ (y ∷ [])) part n (omega arith) (λ j l. rw (append_assoc x (y ∷ []) (take j part)) (u (suc j) (omega arith))) in
    rw (now, r, append_assoc x (y ∷ []) (take n part)) (omega arith)

pub used_all : (b : ℕ) (x part : List ℕ) → ((j : ℕ) → j < length part → decided b (x ++ take j part) ≡ false) → used b x part ≡ length part
used_all b x [] u = refl
used_all b x (y ∷ part) u =
    let now : decided b x ≡ false = rw (append-nil x) at (u 0 (omega arith)) in
    rw (now, used_all b (x ++ (y ∷ [])) part (λ j l. rw (append_assoc x (y ∷ []) (take j part)) (u (suc j) (omega arith))))
