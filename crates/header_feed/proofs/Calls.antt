-- What a call owes, of what its steps have in hand.
use Rattle.std.specs.Prelude.{Err, Ok, Result}
use Prim.Native.Nat.{ℕ, ◌+◌, ◌-◌, ◌<◌, ◌≤◌, min}
use native.Mathlib.Omega.{arith}
use mathlib.Core.Path.{◌≡◌, refl, ap, sym, ◌∙◌, subst}
use mathlib.Core.Logic.{⊎_elim}
use mathlib.Core.List.{List, [], ◌++◌, append_assoc, append-nil}
use mathlib.Core.Bool.{Bool, true, false}
use lib.Dec.{eqb}
use lib.ListN.{length, take, drop, length-append, length-drop, drop_of_length-le}
use lib.Seq.{paste, take-add, length-take-le, length-paste}
use borrow.Author.Tests.{lt-ltb, le-ltb}
use Rattle.counts.specs.Lists.{at_front}
use Rattle.counts.specs.Outcome.{Outcome, gives, refused, then, each, afterwards}
use Rattle.refusal.specs.declared.Refusal.{Refusal}
use Rattle.refusal.specs.Numbers.{number_of}
use Rattle.record.specs.Prefix.{text_start, Prefix, data_start_of, prefix, text_held}
use Rattle.record.specs.Rooms.{Lent, rooms_of}
use Rattle.record.specs.Header as header
use Rattle.judge.specs.Judged.{reading}
use Rattle.header.specs.Reads.{header_info}
use Rattle.header_feed.specs.declared.Fed.{Fed}
use Rattle.header_feed.specs.declared.Feeder.{Feeder}
use Rattle.header_feed.specs.declared.Feeding.{Feeding}
use Rattle.header_feed.specs.declared.Grows.{Grows}
use Rattle.header_feed.specs.Due.{header_with, decided, used, start_in}
use Rattle.header_prefix.specs.declared.Prefix as before
use Rattle.header_prefix.specs.Answer.{prefix_is, prefix_answer}
use Rattle.header_feed.specs.Feeds.{outcome, progress, so_far, After, TakesPart, Stays, FeedsAs, Feeds, cut_short, Ends}
use Rattle.header_feed.specs.Steps.{BytesHeld, HeadTaken, TakesHead, PrefixWhole, RestTaken, TakesText, ReadsWhole}
use Rattle.header_feed.proofs.Prefixes.{Whole, given_whole, given_stays}
use Rattle.header_feed.proofs.Decides.{short_undecided, three_undecided, other_decided, buffer_decided, end_decided, text_undecided, used_stop, used_go, used_all}
use Rattle.header_feed.proofs.Holds.{held_first, held_prefix, text_reaches, more_head, more_text, more_words}
use Rattle.header_feed.proofs.Texts.{start_small, from_on, no_three, is_three, is_refused, is_given}

-- a feeder after a call
abbrev pub after : List ℕ → ℕ → ℕ → Fed → Feeding
after head n u s = record { feeder = record { head = head; taken = n; said = s }; used = u }

-- ---- the outcome of these bytes, by any reading
module _ (rd : header.Reading) (b : ℕ) (x : List ℕ) (l : Lent) where
  pub prefix_refused : (k : ℕ) → prefix x ≡ refused k → header_with rd b x l ≡ refused k
  unfolding header_with
  prefix_refused k e = rw e

  pub buffer_short : (p : Prefix) → prefix x ≡ gives p → b < p.text_length → header_with rd b x l ≡ refused 36
  unfolding header_with
  buffer_short p e h = rw (e, lt-ltb b p.text_length h)

  pub text_whole : (p : Prefix) → prefix x ≡ gives p → p.text_length ≤ b → data_start_of p ≤ length x
      → header_with rd b x l ≡ then (header.record_in rd (take p.text_length (drop (text_start p.version) x))) (header.stored (rooms_of l) p)
  unfolding header_with text_held
  text_whole p e h r = rw (e, le-ltb b p.text_length h, text_held, le-ltb (length x) (data_start_of p) r)

-- ---- what is owed of bytes that are held
module _ (was text x head : List ℕ) (n : ℕ) (l : Lent) (h : BytesHeld was text x head n) where
  pub owed_more : decided (length text) x ≡ false → After reading x was text l (record { head = head; taken = n; said = Fed.More }) text l
  owed_more u = record { says = rw u; head_is = h.in_head; taken_is = h.count; text_after = h.in_text; rooms_after = rw u }

  pub owed_refused : (r : Refusal) → 8 ≤ n → prefix x ≡ refused (number_of r) → (number_of r ≡ 3 → ⊥) → After reading x was text l (record { head = head; taken = n; said = Fed.Refused r }) text l
  owed_refused r e q k =
      let u = other_decided (length text) x (number_of r) (omega (arith, h.count)) q k in
      let o = prefix_refused reading (length text) x l (number_of r) q in
      record { says = rw (u, o); head_is = h.in_head; taken_is = h.count; text_after = h.in_text; rooms_after = rw (u, o) }

  pub owed_buffer : (p : Prefix) → prefix x ≡ gives p → length text < p.text_length → After reading x was text l (record { head = head; taken = n; said = Fed.Refused Refusal.Buffer }) text l
  owed_buffer p q k =
      let u = buffer_decided (length text) x p q k in
      let o = buffer_short reading (length text) x l p q k in
      record { says = rw (u, o); head_is = h.in_head; taken_is = h.count; text_after = h.in_text; rooms_after = rw (u, o) }

-- ---- a call whose part ends, or is refused, before the text
module _ (head : List ℕ) (taken : ℕ) (part text : List ℕ) (l : Lent) (r : Grows) (h : HeadTaken head text (so_far head taken text) part r) where
  abbrev x : List ℕ
  x = so_far head taken text ++ take r.used part

  x_held : BytesHeld head text x r.head r.taken
  x_held = h.held

  all_used : (r.used ≡ length part) → used (length text) (so_far head taken text) part ≡ r.used
  all_used e = used_all (length text) (so_far head taken text) part (λ j k. h.undecided (length text) j (rw e k)) ∙ sym e

  so_used : used (length text) (so_far head taken text) part ≡ r.used + used (length text) x (drop r.used part)
  so_used = used_go (length text) (so_far head taken text) part r.used h.within (h.undecided (length text))

  pub takes_short : r.taken < 8 → TakesPart head taken part text l (after r.head r.taken r.used Fed.More) text l
  takes_short k =
      let e : r.used ≡ length part = ⊎_elim (λ (u : r.used ≡ length part). u) (λ u. absurd (omega (arith, u.0))) h.complete in
      record { used_is = sym (all_used e); after = owed_more head text x r.head r.taken l x_held (short_undecided (length text) x (omega (arith, x_held.count))) }

  pub takes_three : refused 3 ≡ prefix x → TakesPart head taken part text l (after r.head r.taken r.used Fed.More) text l
  takes_three q =
      let e : r.used ≡ length part = ⊎_elim (λ (u : r.used ≡ length part). u) (λ u. absurd (u.1 (sym q))) h.complete in
      record { used_is = sym (all_used e); after = owed_more head text x r.head r.taken l x_held (three_undecided (length text) x (sym q)) }

  pub takes_refused : (f : Refusal) → 8 ≤ r.taken → refused (number_of f) ≡ prefix x → (number_of f ≡ 3 → ⊥) → TakesPart head taken part text l (after r.head r.taken r.used (Fed.Refused f)) text l
  takes_refused f k q n =
      let z = used_stop (length text) x (drop r.used part) (other_decided (length text) x (number_of f) (omega (arith, x_held.count)) (sym q) n) in
      record { used_is = sym (so_used ∙ omega (arith, z)); after = owed_refused head text x r.head r.taken l x_held f k (sym q) n }

  -- the text's step takes over
  pub takes_text : (s : Feeding) (text' : List ℕ) (l' : Lent) → RestTaken head text x (drop r.used part) r.used l s text' l' → TakesPart head taken part text l s text' l'
  takes_text s text' l' e =
      let u = used (length text) x (drop r.used part) in
      let joined : so_far head taken text ++ take s.used part ≡ x ++ take u (drop r.used part) =
      rw e.used_is (ap (λ (z : List ℕ). so_far head taken text ++ z) (take-add r.used u part) ∙ sym (append_assoc (so_far head taken text) (take r.used part) (take u (drop r.used part)))) in
      record { used_is = e.used_is ∙ sym so_used; after = rw joined e.after }

-- ---- the text's step
module _ (was text x head : List ℕ) (n : ℕ) (l : Lent) (h : BytesHeld was text x head n) (p : Prefix) (e : prefix x ≡ gives p) (rest : List ℕ) (from : ℕ) where
  w : Whole x p
  w = given_whole x p e

  pub ends_buffer : length text < p.text_length → RestTaken was text x rest from l (after head n from (Fed.Refused Refusal.Buffer)) text l
  ends_buffer k =
      let z = used_stop (length text) x rest (buffer_decided (length text) x p e k) in
      let y : x ++ take (used (length text) x rest) rest ≡ x = rw z (append-nil x) in
      record { used_is = omega (arith, z); after = rw y (owed_buffer was text x head n l h p e k) }

  pub text_starts : text_start p.version ≤ n
  text_starts = omega (arith, w.reached, h.count)

  module _ (room : p.text_length ≤ length text) (held : ℕ) (held_is : held ≡ n - text_start p.version) (m : ℕ) (m_is : m ≡ min (p.text_length - held) (length rest)) where
    y : List ℕ
    y = x ++ take m rest

    m_within : m ≤ length rest
    m_within = omega (arith, m_is)

    x_eight : 8 ≤ n
    x_eight = omega (arith, w.long, h.count)

    x_reached : start_in x ≤ n
    x_reached = omega (arith, w.starts, text_starts)

    same_held : held ≡ n - start_in x
    same_held = held_is ∙ omega (arith, w.starts)

    pub copy_fits : held + m ≤ length text
    copy_fits = omega (arith, m_is, room, text_reaches was text x head n h x_reached x_eight, same_held)

    y_length : length y ≡ n + m
    unfolding y
    y_length = length-append x (take m rest) ∙ omega (arith, h.count, length-take-le m rest m_within)

    y_given : prefix y ≡ gives p
    unfolding y
    y_given = given_stays x (take m rest) p e

    y_head : head ≡ at_front (take (start_in y) y) was
    unfolding y
    y_head = more_head was text x head n h x_reached x_eight rest m m_within

    y_text : paste text held rest m ≡ at_front (drop (start_in y) y) text
    unfolding y
    y_text = rw same_held (more_text was text x head n h x_reached x_eight rest m m_within)

    go_on : used (length text) x rest ≡ m + used (length text) y (drop m rest)
    unfolding y
    go_on =
        used_go (length text) x rest m m_within
        (λ j k.
        let g = given_stays x (take j rest) p e in
        let len : length (x ++ take j rest) ≡ n + j = length-append x (take j rest) ∙ omega (arith, h.count, length-take-le j rest (omega (arith, m_within))) in
        text_undecided (length text) (x ++ take j rest) p g room (omega (arith, len, m_is, held_is, text_starts)))

    pub ends_more : held + m < p.text_length → (text' : List ℕ) → text' ≡ paste text held rest m → RestTaken was text x rest from l (after head (n + m) (from + m) Fed.More) text' l
    unfolding y
    ends_more k text' et =
        let all : m ≡ length rest = omega (arith, m_is) in
        let none : drop m rest ≡ [] = drop_of_length-le rest {i = m} (omega (arith, all)) in
        let um : used (length text) x rest ≡ m = go_on ∙ rw none (omega arith) in
        let u = text_undecided (length text) y p y_given room (omega (arith, y_length, held_is, text_starts)) in
        record {
          used_is = ap (λ (z : ℕ). from + z) (sym um);
          after = rw um record { says = rw u; head_is = y_head; taken_is = sym y_length; text_after = et ∙ y_text; rooms_after = rw u };
        }

    words : (text' : List ℕ) → text' ≡ paste text held rest m → p.text_length ≤ held + m → take p.text_length text' ≡ take p.text_length (drop (text_start p.version) y)
    unfolding y
    words text' et k =
        let s : start_in y ≡ text_start p.version = (given_whole y p y_given).starts in
        let q = more_words was text x head n h x_reached x_eight rest m m_within p.text_length (omega (arith, same_held)) in
        rw (et, same_held, ← s) q

    pub ends_whole : p.text_length ≤ held + m → (text' : List ℕ) → text' ≡ paste text held rest m → (f : Fed) (l' : Lent) → ReadsWhole p.version (take p.text_length text') l f l'
        → RestTaken was text x rest from l (after head (n + m) (from + m) f) text' l'
    unfolding y
    ends_whole k text' et f l' rd =
        let end : data_start_of p ≤ length y = omega (arith, y_length, held_is, text_starts) in
        let u = end_decided (length text) y p y_given end in
        let um : used (length text) x rest ≡ m = go_on ∙ omega (arith, used_stop (length text) y (drop m rest) u) in
        let t = words text' et k in
        let o = text_whole reading (length text) y l p y_given room end in
        let len : length (take p.text_length text') ≡ p.text_length = rw t (length-take-le p.text_length (drop (text_start p.version) y) (omega (arith, length-drop (text_start p.version) y, end))) in
        let is : then (header.record_in reading (take p.text_length text')) (header.stored (rooms_of l) (record { version = p.version; text_length = length (take p.text_length text') })) ≡ header_with reading (length text) y l =
        rw len (rw t (sym o)) in
        record {
          used_is = ap (λ (z : ℕ). from + z) (sym um);
          after =
              rw um
              record {
                says = rw u (rd.says ∙ ap (λ (z : Outcome header.Header). outcome (each header_info z)) is);
                head_is = y_head;
                taken_is = sym y_length;
                text_after = et ∙ y_text;
                rooms_after = rw u (rd.after ∙ ap (λ (z : Outcome header.Header). afterwards header.holding_header z l) is);
              };
        }

-- ---- the same, of what the code has in hand
module _ (was text x head : List ℕ) (n : ℕ) (l : Lent) (h : BytesHeld was text x head n) (p : Prefix) (e : prefix x ≡ gives p) (part : List ℕ) (from : ℕ) where
  abbrev q : List ℕ
  q = take (length part - from) (drop from part)

  pub hand_buffer : (r : Feeding) → r ≡ after head n from (Fed.Refused Refusal.Buffer) → length text < p.text_length → RestTaken was text x (drop from part) from l r text l
  hand_buffer r i k = subst (λ (z : Feeding). RestTaken was text x (drop from part) from l z text l) (sym i) (ends_buffer was text x head n l h p e (drop from part) from k)

  module _ (room : p.text_length ≤ length text) (start : ℕ) (st : start ≡ text_start p.version) (d m : ℕ) (dd : d ≡ p.text_length - (n - start)) (mm : m ≡ min d (length q)) where
    held_is : n - start ≡ n - text_start p.version
    held_is = ap (λ (k : ℕ). n - k) st

    m_is : m ≡ min (p.text_length - (n - start)) (length (drop from part))
    m_is = mm ∙ rw (dd, from_on from part)

    pub hand_fits : (n - start + m ≤ length text) × (m ≤ length q)
    hand_fits = (copy_fits was text x head n l h p e (drop from part) from room (n - start) held_is m m_is, omega (arith, mm))

    pub hand_sum : n + m ≤ 12 + length text
    hand_sum = omega (arith, hand_fits.0, st, text_starts was text x head n l h p e (drop from part) from, start_small p.version)

    module _ (text' : List ℕ) (et : text' ≡ paste text (n - start) q m) where
      et' : text' ≡ paste text (n - start) (drop from part) m
      et' = rw (from_on from part) at et

      pub hand_length : length text' ≡ length text
      hand_length = ap length et ∙ length-paste text (n - start) q m hand_fits.0 hand_fits.1

      pub hand_more : n - start + m < p.text_length → (r : Feeding) → r ≡ after head (n + m) (from + m) Fed.More → RestTaken was text x (drop from part) from l r text' l
      hand_more k r i =
          subst (λ (z : Feeding). RestTaken was text x (drop from part) from l z text' l) (sym i)
          (ends_more was text x head n l h p e (drop from part) from room (n - start) held_is m m_is k text' et')

      pub hand_whole : p.text_length ≤ n - start + m → (f : Fed) (l' : Lent) → ReadsWhole p.version (take p.text_length text') l f l' → (r : Feeding) → r ≡ after head (n + m) (from + m) f
          → RestTaken was text x (drop from part) from l r text' l'
      hand_whole k f l' rd r i =
          subst (λ (z : Feeding). RestTaken was text x (drop from part) from l z text' l') (sym i)
          (ends_whole was text x head n l h p e (drop from part) from room (n - start) held_is m m_is k text' et' f l' rd)

-- ---- a whole call, of what the code has in hand
module _ (head : List ℕ) (taken : ℕ) (part text : List ℕ) (l : Lent) (long : length head ≡ 12) (had : ℕ) (had_is : had ≡ min taken (start_in head + length text)) (r : Grows) (g : TakesHead head had part r) where
  heads : HeadTaken head text (so_far head taken text) part r
  heads = g head text (so_far head taken text) (subst (λ (k : ℕ). BytesHeld head text (so_far head taken text) head k) (sym had_is) (held_first head taken text long))

  pub part_within : r.used ≤ length part
  part_within = heads.within

  pub part_short : r.taken < 8 → (s : Feeding) → s ≡ after r.head r.taken r.used Fed.More → TakesPart head taken part text l s text l
  part_short k s i = subst (λ (z : Feeding). TakesPart head taken part text l z text l) (sym i) (takes_short head taken part text l r heads k)

  module _ (x : Result before.Prefix Refusal) (a : prefix_answer x ≡ prefix (take (min r.taken (start_in r.head)) r.head)) where
    so : prefix_answer x ≡ prefix (so_far head taken text ++ take r.used part)
    so = a ∙ held_prefix head text (so_far head taken text ++ take r.used part) r.head r.taken heads.held

    pub part_three : (f : Refusal) (b : Bool) → x ≡ Err f → b ≡ eqb (number_of f) 3 → b ≡ true → (s : Feeding) → s ≡ after r.head r.taken r.used Fed.More → TakesPart head taken part text l s text l
    part_three f b e n t s i =
        subst (λ (z : Feeding). TakesPart head taken part text l z text l) (sym i)
        (takes_three head taken part text l r heads (is_three x (prefix (so_far head taken text ++ take r.used part)) f b so e n t))

    pub part_refused : 8 ≤ r.taken → (f : Refusal) (b : Bool) → x ≡ Err f → b ≡ eqb (number_of f) 3 → b ≡ false → (s : Feeding) → s ≡ after r.head r.taken r.used (Fed.Refused f) → TakesPart head taken part text l s text l
    part_refused eight f b e n t s i =
        subst (λ (z : Feeding). TakesPart head taken part text l z text l) (sym i)
        (takes_refused head taken part text l r heads f eight (is_refused x (prefix (so_far head taken text ++ take r.used part)) f so e) (no_three x f b n t))

    module _ (p : before.Prefix) (e : x ≡ Ok p) where
      given : prefix (so_far head taken text ++ take r.used part) ≡ gives (prefix_is p)
      given = is_given x (prefix (so_far head taken text ++ take r.used part)) p so e

      pub part_due : PrefixWhole r.head (prefix_is p) r.taken text
      part_due = (head, so_far head taken text ++ take r.used part, heads.held, given)

      pub part_text : (s : Feeding) (text' : List ℕ) (l' : Lent) → TakesText r.head (prefix_is p) r.taken (drop r.used part) r.used text l s text' l' → TakesPart head taken part text l s text' l'
      part_text s text' l' t = takes_text head taken part text l r heads s text' l' (t head (so_far head taken text ++ take r.used part) heads.held given)

-- ---- the ways of a feeder
pub feeds_more : (f : Feeder) (part text : List ℕ) (l : Lent) (r : Feeding) (text' : List ℕ) (l' : Lent) → f.said ≡ Fed.More → TakesPart f.head f.taken part text l r text' l' → Feeds f part text l r text' l'
feeds_more f part text l r text' l' e h = rw e h

pub feeds_stay : (f : Feeder) (part text : List ℕ) (l : Lent) → (f.said ≡ Fed.More → ⊥) → Feeds f part text l (record { feeder = f; used = 0 }) text l
feeds_stay f part text l n = go f.said refl
  where
    same : Stays f text l (record { feeder = f; used = 0 }) text l
    same = record { used_none = refl; same_feeder = refl; same_text = refl; same_rooms = refl }

    go : (s : Fed) → f.said ≡ s → FeedsAs reading (progress s) f part text l (record { feeder = f; used = 0 }) text l
    go Fed.More e = absurd (n e)
    go (Fed.Read h) e = same
    go (Fed.Refused r) e = same

-- ---- the end
pub ends_early : (f : Feeder) (why : Refusal) → f.said ≡ Fed.More → number_of why ≡ cut_short f.taken → Ends f (record { head = f.head; taken = f.taken; said = Fed.Refused why })
ends_early f why e n = record { says = rw (e, n); same_head = refl; same_taken = refl }
