-- The bytes before the text, taken in two stretches: up to byte 8, and where the prefix is then 3, up to where the text starts. Nothing is decided on the way.
use Prim.Native.Nat.{ℕ, ◌+◌, ◌-◌, ◌<◌, ◌≤◌, min}
use native.Mathlib.Omega.{arith}
use mathlib.Core.Path.{◌≡◌, ap, sym, ◌∙◌}
use mathlib.Core.Logic.{inl, inr, ⊎_elim}
use mathlib.Core.List.{List, ◌++◌, append_assoc}
use mathlib.Core.Bool.{false}
use lib.ListN.{length, take, drop, length-append, length-drop}
use lib.Seq.{paste, take-add, length-take-le}
use Rattle.counts.specs.Outcome.{Outcome, refused}
use Rattle.counts.proofs.Sides.{lt_or_ge}
use Rattle.record.specs.Prefix.{Prefix, prefix}
use Rattle.header_feed.specs.declared.Grows.{Grows}
use Rattle.header_feed.specs.Due.{decided, start_in}
use Rattle.header_feed.specs.Steps.{Grown, BytesHeld, HeadTaken}
use Rattle.header_feed.proofs.Prefixes.{start_bounds, start_append, three_short, three_stays, start_not_three}
use Rattle.header_feed.proofs.Decides.{short_undecided, three_undecided}
use Rattle.header_feed.proofs.Holds.{held_start, held_prefix, held_none, held_more}

-- what the code returns is what is held
in_hand : (was text taken rest head : List ℕ) (n m : ℕ) (r : Grows) → r.head ≡ paste head n rest m → r.taken ≡ n + m
    → BytesHeld was text (taken ++ take m rest) (paste head n rest m) (n + m) → BytesHeld was text (taken ++ take m rest) r.head r.taken
in_hand was text taken rest head n m r e f h = rw (e, f) h

joined_length : (x y : List ℕ) (j : ℕ) → j ≤ length y → length (x ++ take j y) ≡ length x + j
joined_length x y j h = length-append x (take j y) ∙ ap (λ (k : ℕ). length x + k) (length-take-le j y h)

-- ---- up to byte 8
module _ (was text taken head : List ℕ) (had : ℕ) (h : BytesHeld was text taken head had) (part : List ℕ) (a : Grows) (g : Grown head had 8 part 0 a) where
  m : ℕ
  m = min (8 - had) (length part)

  used_m : a.used ≡ m
  unfolding m
  used_m = g.used_is ∙ omega arith

  m_within : m ≤ length part
  unfolding m
  m_within = omega arith

  m_eight : had < 8 → had + m ≤ 8
  unfolding m
  m_eight l = omega arith

  m_none : 8 ≤ had → m ≡ 0
  unfolding m
  m_none l = omega arith

  m_all : had + m < 8 → m ≡ length part
  unfolding m
  m_all l = omega arith

  taken_m : a.taken ≡ had + m
  unfolding m
  taken_m = g.taken_is

  head_m : a.head ≡ paste head had part m
  unfolding m
  head_m = g.head_is

  held_m : BytesHeld was text (taken ++ take m part) (paste head had part m) (had + m)
  held_m =
      ⊎_elim
      (λ (l : had < 8).
      let s = start_bounds (taken ++ take m part) in
      let t = start_bounds taken in
      held_more was text taken head had h part m m_within (omega (arith, m_eight l)) (omega (arith, m_eight l)) (omega arith))
      (λ (l : 8 ≤ had). rw (m_none l) (held_none was text taken head had h part))
      (lt_or_ge had 8)

  pub first_within : a.used ≤ length part
  first_within = rw used_m m_within

  pub first_held : BytesHeld was text (taken ++ take a.used part) a.head a.taken
  first_held = rw used_m (in_hand was text taken part head had m a head_m taken_m held_m)

  pub first_undecided : (buffer j : ℕ) → j < a.used → decided buffer (taken ++ take j part) ≡ false
  first_undecided buffer j l =
      let lm : j < m = rw used_m at l in
      let few : had < 8 = ⊎_elim (λ (k : had < 8). k) (λ (k : 8 ≤ had). absurd (omega (arith, m_none k))) (lt_or_ge had 8) in
      short_undecided buffer (taken ++ take j part) (omega (arith, joined_length taken part j (omega (arith, m_within)), h.count, m_eight few))

  -- a part that ends before byte 8
  pub first_short : a.taken < 8 → HeadTaken was text taken part a
  first_short l =
      record { within = first_within; held = first_held; undecided = first_undecided; complete = inl (used_m ∙ m_all (rw taken_m at l)) }

  -- a prefix that is no 3
  module _ (eight : 8 ≤ a.taken) where
    pub first_prefix : prefix (take (min a.taken (start_in a.head)) a.head) ≡ prefix (taken ++ take a.used part)
    first_prefix = held_prefix was text (taken ++ take a.used part) a.head a.taken first_held

    pub first_done : (o : Outcome Prefix) → o ≡ prefix (take (min a.taken (start_in a.head)) a.head) → (o ≡ refused 3 → ⊥) → HeadTaken was text taken part a
    first_done o e n =
        record { within = first_within; held = first_held; undecided = first_undecided; complete = inr (eight, λ q. n (e ∙ first_prefix ∙ q)) }

    -- ---- and up to the text
    module _ (e : refused 3 ≡ prefix (take (min a.taken (start_in a.head)) a.head)) (start : ℕ) (at : start ≡ start_in a.head) (b : Grows) (gb : Grown a.head a.taken start (drop a.used part) a.used b) where
      x : List ℕ
      x = taken ++ take a.used part

      rest : List ℕ
      rest = drop a.used part

      k : ℕ
      k = min (start - a.taken) (length rest)

      held_x : BytesHeld was text x a.head a.taken
      unfolding x
      held_x = first_held

      x_count : a.taken ≡ length x
      x_count = held_x.count

      x_three : prefix x ≡ refused 3
      unfolding x
      x_three = sym (e ∙ first_prefix)

      x_eight : 8 ≤ length x
      x_eight = omega (arith, x_count)

      x_start : start ≡ start_in x
      x_start = at ∙ held_start was text x a.head a.taken held_x eight

      x_short : a.taken < start
      x_short = omega (arith, three_short x x_eight x_three, x_start, x_count)

      k_within : k ≤ length rest
      unfolding k
      k_within = omega arith

      k_start : a.taken + k ≤ start
      unfolding k
      k_start = omega (arith, x_short)

      k_all : a.taken + k < start → k ≡ length rest
      unfolding k
      k_all l = omega arith

      rest_length : length rest ≡ length part - a.used
      unfolding rest
      rest_length = length-drop a.used part

      y_start : start_in (x ++ take k rest) ≡ start_in x
      y_start = start_append x (take k rest) x_eight

      y_is : x ++ take k rest ≡ taken ++ take (a.used + k) part
      unfolding x rest
      y_is = append_assoc taken (take a.used part) (take k rest) ∙ ap (λ (z : List ℕ). taken ++ z) (sym (take-add a.used k part))

      held_y : BytesHeld was text (x ++ take k rest) (paste a.head a.taken rest k) (a.taken + k)
      held_y =
          let s = start_bounds x in
          held_more was text x a.head a.taken held_x rest k k_within (omega (arith, k_start, x_start)) (omega (arith, k_start, x_start, y_start)) (omega (arith, x_short, x_start))

      used_k : b.used ≡ a.used + k
      unfolding rest k
      used_k = gb.used_is

      taken_k : b.taken ≡ a.taken + k
      unfolding rest k
      taken_k = gb.taken_is

      head_k : b.head ≡ paste a.head a.taken rest k
      unfolding rest k
      head_k = gb.head_is

      -- between byte 8 and the text
      later : (buffer i : ℕ) → i < k → decided buffer (x ++ take i rest) ≡ false
      later buffer i l =
          three_undecided buffer (x ++ take i rest)
          (three_stays x (take i rest) x_eight x_three (omega (arith, joined_length x rest i (omega (arith, k_within)), x_count, k_start, x_start)))

      again : (i : ℕ) → x ++ take i rest ≡ taken ++ take (a.used + i) part
      unfolding x rest
      again i = append_assoc taken (take a.used part) (take i rest) ∙ ap (λ (z : List ℕ). taken ++ z) (sym (take-add a.used i part))

      pub second_done : HeadTaken was text taken part b
      second_done =
          record {
            within = omega (arith, used_k, k_within, rest_length, first_within);
            held = rw (used_k, ← y_is) (in_hand was text x rest a.head a.taken k b head_k taken_k held_y);
            undecided = λ buffer j l.
                ⊎_elim
                (λ (u : j < a.used). first_undecided buffer j u)
                (λ (u : a.used ≤ j).
                let i : ℕ = j - a.used in
                let z : a.used + i ≡ j = omega arith in
                rw (again i, z) at (later buffer i (omega (arith, used_k))))
                (lt_or_ge j a.used);
            complete =
                ⊎_elim
                (λ (u : a.taken + k < start). inl (omega (arith, used_k, k_all u, rest_length, first_within)))
                (λ (u : start ≤ a.taken + k).
                inr (omega (arith, taken_k, eight), rw (used_k, ← y_is) (start_not_three x (take k rest) x_eight x_three (omega (arith, joined_length x rest k k_within, x_count, x_start)))))
                (lt_or_ge (a.taken + k) start);
          }
