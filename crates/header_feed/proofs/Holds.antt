-- What is held of the bytes taken so far: in the head and at the front of the text buffer.
use Prim.Native.Nat.{ℕ, ◌+◌, ◌-◌, ◌<◌, ◌≤◌, min}
use native.Mathlib.Omega.{arith}
use mathlib.Core.Path.{◌≡◌, refl, ap, sym, ◌∙◌}
use mathlib.Core.Logic.{⊎_elim}
use mathlib.Core.List.{List, ◌++◌, append-nil}
use lib.ListN.{length, take, drop, length-append, length-take, length-drop, take-append-drop, drop_of_length-le}
use lib.Seq.{paste, paste-zero, take_all, take-take, take_at, drop_at, take-append-le, take-append-add, drop-append-le, drop-append-add, drop-drop, length-take-le, length-paste}
use Rattle.counts.specs.Lists.{at_front}
use Rattle.counts.proofs.Sides.{lt_or_ge}
use Rattle.record.specs.Prefix.{prefix}
use Rattle.header_prefix.proofs.Bytes.{short_is_1}
use Rattle.header_feed.specs.Due.{start_in}
use Rattle.header_feed.specs.Feeds.{so_far}
use Rattle.header_feed.specs.Steps.{BytesHeld}
use Rattle.header_feed.proofs.Prefixes.{start_bounds, start_append, start_take, prefix_start}

-- a head has room for the bytes before the text
pub within : (head : List ℕ) (got n start : ℕ) → n ≡ min got start → start ≡ start_in head → length head ≡ 12 → n ≤ length head
within head got n start e f l = omega (arith, e, f, start_bounds head)

-- the front that a room has may be put there again
front_again : (n : ℕ) (l : List ℕ) → at_front (take n l) l ≡ l
front_again n l =
    ⊎_elim
    (λ (h : n < length l). rw (length-take-le n l (omega arith)) (take-append-drop n l))
    (λ (h : length l ≤ n). rw (take_all n l h, drop_of_length-le l {i = length l} (omega arith)) (append-nil l))
    (lt_or_ge n (length l))

-- ---- what a call finds
module _ (head : List ℕ) (taken : ℕ) (text : List ℕ) (long : length head ≡ 12) where
  first_length : length (take (start_in head) head) ≡ start_in head
  first_length = length-take-le (start_in head) head (omega (arith, start_bounds head))

  all_length : length (take (start_in head) head ++ text) ≡ start_in head + length text
  all_length = length-append (take (start_in head) head) text ∙ ap (λ (n : ℕ). n + length text) first_length

  so_far_length : length (so_far head taken text) ≡ min taken (start_in head + length text)
  unfolding so_far
  so_far_length = length-take taken (take (start_in head) head ++ text) ∙ ap (min taken) all_length

  -- few bytes are in the head alone
  so_far_head : taken ≤ start_in head → so_far head taken text ≡ take taken head
  unfolding so_far
  so_far_head h = take-append-le taken (take (start_in head) head) text (omega (arith, first_length)) ∙ take-take taken (start_in head) head h

  -- many fill it, and go on in the text buffer
  so_far_text : start_in head ≤ taken → so_far head taken text ≡ take (start_in head) head ++ take (taken - start_in head) text
  unfolding so_far
  so_far_text h =
      let e : taken ≡ length (take (start_in head) head) + (taken - start_in head) = omega (arith, first_length) in
      ap (λ (n : ℕ). take n (take (start_in head) head ++ text)) e ∙ take-append-add (take (start_in head) head) text (taken - start_in head)

  held_few : taken ≤ start_in head → BytesHeld head text (so_far head taken text) head (min taken (start_in head + length text))
  held_few h =
      let x : List ℕ = so_far head taken text in
      let is = so_far_head h in
      let s = start_bounds x in
      let s' = start_bounds head in
      let n : length x ≡ taken = ap length is ∙ length-take-le taken head (omega arith) in
      let few : length x ≤ start_in x = ⊎_elim (λ (l : taken < 8). omega arith) (λ (l : 8 ≤ taken). let e : start_in x ≡ start_in head = ap start_in is ∙ start_take taken head l in omega arith) (lt_or_ge taken 8) in
      record {
        long = long;
        count = sym so_far_length;
        in_head = rw (take_all (start_in x) x few, is) (sym (front_again taken head));
        in_text = rw (drop_of_length-le x few);
      }

  held_many : start_in head ≤ taken → BytesHeld head text (so_far head taken text) head (min taken (start_in head + length text))
  held_many h =
      let x : List ℕ = so_far head taken text in
      let is = so_far_text h in
      let s = start_bounds head in
      let e : start_in x ≡ start_in head = ap start_in is ∙ start_append (take (start_in head) head) (take (taken - start_in head) text) (omega (arith, first_length)) ∙ start_take (start_in head) head (omega arith) in
      record {
        long = long;
        count = sym so_far_length;
        in_head = rw (e, is, take_at (take (start_in head) head) (take (taken - start_in head) text) (start_in head) first_length) (sym (front_again (start_in head) head));
        in_text = rw (e, is, drop_at (take (start_in head) head) (take (taken - start_in head) text) (start_in head) first_length) (sym (front_again (taken - start_in head) text));
      }

  pub held_first : BytesHeld head text (so_far head taken text) head (min taken (start_in head + length text))
  held_first = ⊎_elim (λ (h : taken < start_in head). held_few (omega arith)) held_many (lt_or_ge taken (start_in head))

-- ---- what is held, and the prefix that it has
module _ (was text taken head : List ℕ) (n : ℕ) (h : BytesHeld was text taken head n) where
  front_length : 8 ≤ n → length (take (start_in taken) taken) ≡ min n (start_in taken)
  front_length e = length-take (start_in taken) taken ∙ omega (arith, h.count)

  pub held_start : 8 ≤ n → start_in head ≡ start_in taken
  held_start e =
      let s = start_bounds taken in
      let m = front_length e in
      ap start_in h.in_head ∙ start_append (take (start_in taken) taken) (drop (length (take (start_in taken) taken)) was) (omega arith) ∙ start_take (start_in taken) taken (omega arith)

  first_prefix : 8 ≤ n → prefix (take (min n (start_in head)) head) ≡ prefix taken
  first_prefix e =
      let m : min n (start_in head) ≡ length (take (start_in taken) taken) = rw (held_start e) (sym (front_length e)) in
      rw (m, h.in_head) (ap prefix (take_at (take (start_in taken) taken) (drop (length (take (start_in taken) taken)) was) (length (take (start_in taken) taken)) refl) ∙ prefix_start taken (omega (arith, h.count)))

  -- of under 8 bytes it is 1 either way
  pub held_prefix : prefix (take (min n (start_in head)) head) ≡ prefix taken
  held_prefix =
      ⊎_elim
      (λ (e : n < 8). short_is_1 (take (min n (start_in head)) head) (omega (arith, length-take (min n (start_in head)) head)) ∙ sym (short_is_1 taken (omega (arith, h.count))))
      first_prefix
      (lt_or_ge n 8)

  -- nothing more
  pub held_none : (rest : List ℕ) → BytesHeld was text (taken ++ take 0 rest) (paste head n rest 0) (n + 0)
  held_none rest =
      let z : n + 0 ≡ n = omega arith in
      rw (append-nil taken, ← (paste-zero head n rest), z) h

  -- m bytes more, in the head
  pub held_more : (rest : List ℕ) (m : ℕ) → m ≤ length rest → n + m ≤ 12 → n + m ≤ start_in (taken ++ take m rest) → n ≤ start_in taken
      → BytesHeld was text (taken ++ take m rest) (paste head n rest m) (n + m)
  held_more rest m lm l12 ls ln =
      let y : List ℕ = taken ++ take m rest in
      let ny : length y ≡ n + m = length-append taken (take m rest) ∙ omega (arith, h.count, length-take-le m rest lm) in
      let is : head ≡ taken ++ drop n was = h.in_head ∙ rw (take_all (start_in taken) taken (omega (arith, h.count)), h.count) in
      let front : take n head ≡ taken = rw is (take_at taken (drop n was) n (sym h.count)) in
      let back : drop (n + m) head ≡ drop (n + m) was = rw (is, h.count) (drop-append-add taken (drop (length taken) was) m ∙ drop-drop m (length taken) was) in
      record {
        long = length-paste head n rest m (omega (arith, h.long)) lm ∙ h.long;
        count = sym ny;
        in_head = rw (front, back, take_all (start_in y) y (omega arith), ny);
        in_text = rw (drop_of_length-le y {i = start_in y} (omega arith));
      }

  -- ---- and after a whole prefix, in the text buffer
  module _ (reached : start_in taken ≤ n) (eight : 8 ≤ n) where
    text_length : length (drop (start_in taken) taken) ≡ n - start_in taken
    text_length = length-drop (start_in taken) taken ∙ omega (arith, h.count)

    pub text_reaches : n - start_in taken ≤ length text
    text_reaches = omega (arith, ap length h.in_text ∙ length-append (drop (start_in taken) taken) (drop (length (drop (start_in taken) taken)) text), text_length)

    text_front : take (n - start_in taken) text ≡ drop (start_in taken) taken
    text_front =
        ap (take (n - start_in taken)) h.in_text
        ∙ take_at (drop (start_in taken) taken) (drop (length (drop (start_in taken) taken)) text) (n - start_in taken) text_length

    module _ (rest : List ℕ) (m : ℕ) (lm : m ≤ length rest) where
      same_start : start_in (taken ++ take m rest) ≡ start_in taken
      same_start = start_append taken (take m rest) (omega (arith, h.count))

      pub more_head : head ≡ at_front (take (start_in (taken ++ take m rest)) (taken ++ take m rest)) was
      more_head = h.in_head ∙ rw (same_start, take-append-le (start_in taken) taken (take m rest) (omega (arith, h.count)))

      pub more_text_bytes : drop (start_in (taken ++ take m rest)) (taken ++ take m rest) ≡ drop (start_in taken) taken ++ take m rest
      more_text_bytes = rw (same_start, drop-append-le (start_in taken) taken (take m rest) (omega (arith, h.count)))

      pub more_text : paste text (n - start_in taken) rest m ≡ at_front (drop (start_in (taken ++ take m rest)) (taken ++ take m rest)) text
      more_text =
          let len : length (drop (start_in taken) taken ++ take m rest) ≡ n - start_in taken + m =
          length-append (drop (start_in taken) taken) (take m rest) ∙ omega (arith, text_length, length-take-le m rest lm) in
          rw (text_front, more_text_bytes, len)

      -- the text's first bytes are those that were taken
      pub more_words : (len : ℕ) → len ≤ n - start_in taken + m
          → take len (paste text (n - start_in taken) rest m) ≡ take len (drop (start_in (taken ++ take m rest)) (taken ++ take m rest))
      more_words len l =
          let k : length (drop (start_in (taken ++ take m rest)) (taken ++ take m rest)) ≡ n - start_in taken + m =
          ap length more_text_bytes ∙ length-append (drop (start_in taken) taken) (take m rest) ∙ omega (arith, text_length, length-take-le m rest lm) in
          rw more_text
          (take-append-le len (drop (start_in (taken ++ take m rest)) (taken ++ take m rest)) (drop (length (drop (start_in (taken ++ take m rest)) (taken ++ take m rest))) text) (omega arith))
