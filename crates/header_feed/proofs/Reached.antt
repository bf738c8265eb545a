-- WHAT A RUN OF CALLS HAS REACHED is decided by the bytes that it has taken: they are held and the feeder needs more, or the feeder has said the outcome. One call takes it on by as many bytes of its part as are taken
-- until the outcome comes.
use Prim.Native.Nat.{ℕ, zero, suc, ◌+◌, ◌-◌, ◌<◌, ◌≤◌}
use native.Mathlib.Omega.{arith}
use mathlib.Core.Path.{◌≡◌, refl, ap, sym, ◌∙◌, subst}
use mathlib.Core.Logic.{◌⊎◌, inl, inr, ⊎_elim}
use mathlib.Core.List.{List, [], ◌∷◌, ◌++◌, append_assoc, append-nil}
use mathlib.Core.Bool.{Bool, true, false, cond}
use lib.ListN.{length, take, drop, length-append, length-take, length-drop, take-append-drop}
use lib.Seq.{take_all, take_at, take-append-le, take-append-add, take-take, drop-append-add, drop-drop, length-take-le}
use Rattle.counts.specs.Lists.{at_front}
use Rattle.counts.specs.Outcome.{Outcome, each, afterwards}
use Rattle.counts.proofs.Sides.{lt_or_ge}
use Rattle.record.specs.Rooms.{Lent}
use Rattle.record.specs.Header as header
use Rattle.header.specs.Reads.{HeaderInfo, header_info}
use Rattle.header_feed.specs.declared.Fed.{Fed}
use Rattle.header_feed.specs.declared.Feeder.{Feeder}
use Rattle.header_feed.specs.declared.Feeding.{Feeding}
use Rattle.header_feed.specs.Due.{header_with, start_in, decided, used}
use Rattle.header_feed.specs.Feeds.{Progress, outcome, need_more, progress, so_far, Kept, After, TakesBy, Stays, FeedsAs, FeedsBy, fresh_feeder}
use Rattle.header_feed.proofs.Prefixes.{start_bounds, start_append, start_take, three_short, given_whole}
use Rattle.header_feed.proofs.Decides.{short_undecided, other_decided, buffer_decided, end_decided, used_stop}
use Rattle.header_feed.proofs.Outcomes.{said_apart}
use Rattle.header_feed.proofs.Verdicts.{Verdict, short, three, other, no_buffer, part_text, whole_text_lem, verdict, apart}

-- ---- what a feeder holds is what was taken
module _ (head text x head' text' : List ℕ) (eh : head' ≡ at_front (take (start_in x) x) head) (et : text' ≡ at_front (drop (start_in x) x) text) where
  in_front : length x ≤ start_in x → (take (length x) head' ≡ x) × (length x ≤ length head')
  in_front h =
      let is : head' ≡ x ++ drop (length x) head = eh ∙ rw (take_all (start_in x) x h) in
      (rw is (take_at x (drop (length x) head) (length x) refl), rw (is, length-append x (drop (length x) head)) (omega arith))

  few_back : length x ≤ start_in x → length x ≤ start_in head' → so_far head' (length x) text' ≡ x
  unfolding so_far
  few_back h h' =
      let f = in_front h in
      let n : length x ≤ length (take (start_in head') head') = rw (length-take (start_in head') head') (omega (arith, f.1)) in
      take-append-le (length x) (take (start_in head') head') text' n ∙ take-take (length x) (start_in head') head' h' ∙ f.0

  start_back : 8 ≤ length x → start_in head' ≡ start_in x
  start_back h =
      let s = start_bounds x in
      let n : 8 ≤ length (take (start_in x) x) = rw (length-take (start_in x) x) (omega arith) in
      ap start_in eh ∙ start_append (take (start_in x) x) (drop (length (take (start_in x) x)) head) n ∙ start_take (start_in x) x (omega arith)

  many_back : 8 ≤ length x → start_in x ≤ length x → so_far head' (length x) text' ≡ x
  unfolding so_far
  many_back h r =
      let s = start_bounds x in
      let n : length (take (start_in x) x) ≡ start_in x = length-take-le (start_in x) x r in
      let front : take (start_in x) head' ≡ take (start_in x) x = rw eh (take_at (take (start_in x) x) (drop (length (take (start_in x) x)) head) (start_in x) n) in
      let back : take (length x - start_in x) text' ≡ drop (start_in x) x = rw et (take_at (drop (start_in x) x) (drop (length (drop (start_in x) x)) text) (length x - start_in x) (length-drop (start_in x) x)) in
      let e : length x ≡ length (take (start_in x) x) + (length x - start_in x) = omega (arith, n) in
      rw (start_back h, front) (ap (λ (k : ℕ). take k (take (start_in x) x ++ text')) e ∙ take-append-add (take (start_in x) x) text' (length x - start_in x) ∙ rw back (take-append-drop (start_in x) x))

  pub so_far_back : so_far head' (length x) text' ≡ x
  so_far_back =
      let s = start_bounds x in
      let s' = start_bounds head' in
      ⊎_elim
      (λ (h : length x < 8). few_back (omega arith) (omega arith))
      (λ (h : 8 ≤ length x).
      ⊎_elim (λ (r : length x < start_in x). few_back (omega arith) (omega (arith, start_back h))) (λ (r : start_in x ≤ length x). many_back h r) (lt_or_ge (length x) (start_in x)))
      (lt_or_ge (length x) 8)

-- a front that is written over by a longer one
front_over : (x y l : List ℕ) → length x ≤ length y → at_front y (at_front x l) ≡ at_front y l
front_over x y l h =
    let k : ℕ = length y - length x in
    let e : length y ≡ length x + k = omega arith in
    ap (λ (z : List ℕ). y ++ z) (ap (λ (n : ℕ). drop n (x ++ drop (length x) l)) e ∙ drop-append-add x (drop (length x) l) k ∙ drop-drop k (length x) l ∙ ap (λ (n : ℕ). drop n l) (sym e))

-- the text bytes of bytes that are not enough fit the buffer
text_fits : (b : ℕ) (x : List ℕ) → decided b x ≡ false → length (drop (start_in x) x) ≤ b
text_fits b x d = go (verdict b x)
  where
    none : length x ≤ start_in x → length (drop (start_in x) x) ≤ b
    none h = rw (length-drop (start_in x) x) (omega arith)

    go : Verdict b x → length (drop (start_in x) x) ≤ b
    go (short h) = none (omega (arith, start_bounds x))
    go (three h e) = none (omega (arith, three_short x h e))
    go (other k h e n) = absurd (apart (decided b x) (other_decided b x k h e n) d)
    go (no_buffer p e h) = absurd (apart (decided b x) (buffer_decided b x p e h) d)
    go (part_text p e h m) = rw (length-drop (start_in x) x) (omega (arith, (given_whole x p e).starts))
    go (whole_text_lem p e h m) = absurd (apart (decided b x) (end_decided b x p e m) d)

-- ---- what a run has reached
-- these bytes are held, and the feeder needs more
pub record Pending (text₀ : List ℕ) (l₀ : Lent) (x : List ℕ) (f : Feeder) (text : List ℕ) (l : Lent) : Type 0 where
  pub undecided : decided (length text₀) x ≡ false
  pub need : f.said ≡ Fed.More
  pub held : so_far f.head f.taken text ≡ x
  pub count : f.taken ≡ length x
  pub kept : Kept x text₀ text
  pub same_length : length text ≡ length text₀
  pub rooms_same : l ≡ l₀

-- the outcome was said
pub record Settled (rd : header.Reading) (text₀ : List ℕ) (l₀ : Lent) (x : List ℕ) (f : Feeder) (text : List ℕ) (l : Lent) : Type 0 where
  pub decided_so : decided (length text₀) x ≡ true
  pub says : progress f.said ≡ outcome (each header_info (header_with rd (length text₀) x l₀))
  pub count : f.taken ≡ length x
  pub kept : Kept x text₀ text
  pub rooms : l ≡ afterwards header.holding_header (header_with rd (length text₀) x l₀) l₀

abbrev pub Reached : (rd : header.Reading) (text₀ : List ℕ) (l₀ : Lent) (x : List ℕ) → Feeder → (text : List ℕ) → Lent → Type 0
Reached rd text₀ l₀ x f text l = Pending text₀ l₀ x f text l ⊎ Settled rd text₀ l₀ x f text l

no_need : (a : Outcome HeaderInfo) → outcome a ≡ need_more → ⊥
no_need a e = let z : ◌≡◌ {A = ℕ} 0 1 = cc in omega arith

-- `need more` is said by one answer alone
more_only : (s : Fed) → progress s ≡ need_more → s ≡ Fed.More
more_only s e = said_apart s Fed.More e

module _ (rd : header.Reading) (text₀ : List ℕ) (l₀ : Lent) where
  b : ℕ
  b = length text₀

  -- a longer list of bytes has the text bytes of a shorter one in front
  kept_on : (x y text text' : List ℕ) → Kept x text₀ text → Kept (x ++ y) text text' → decided b x ≡ false → Kept (x ++ y) text₀ text'
  unfolding b
  kept_on x y text text' h h' d =
      let n : length (drop (start_in x) x) ≤ length (drop (start_in (x ++ y)) (x ++ y)) = shorter in
      h' ∙ rw h (front_over (drop (start_in x) x) (drop (start_in (x ++ y)) (x ++ y)) text₀ n)
    where
      shorter : length (drop (start_in x) x) ≤ length (drop (start_in (x ++ y)) (x ++ y))
      shorter =
          rw (length-drop (start_in x) x, length-drop (start_in (x ++ y)) (x ++ y), length-append x y)
          (⊎_elim
          (λ (l : length x < 8). omega (arith, start_bounds x))
          (λ (l : 8 ≤ length x). omega (arith, start_append x y l))
          (lt_or_ge (length x) 8))

  after_said : (x y : List ℕ) (f : Feeder) (text : List ℕ) (r : Feeder) (text' : List ℕ) (l' : Lent) → Pending text₀ l₀ x f text l₀ → After rd (x ++ y) f.head text l₀ r text' l' → Reached rd text₀ l₀ (x ++ y) r text' l'
  unfolding b
  after_said x y f text r text' l' h a = go (decided b (x ++ y)) refl
    where
      same : length text ≡ b
      same = h.same_length

      said' : progress r.said ≡ cond (decided b (x ++ y)) (outcome (each header_info (header_with rd b (x ++ y) l₀))) need_more
      said' = rw same at a.says

      rooms' : l' ≡ cond (decided b (x ++ y)) (afterwards header.holding_header (header_with rd b (x ++ y) l₀) l₀) l₀
      rooms' = rw same at a.rooms_after

      on : Kept (x ++ y) text₀ text'
      on = kept_on x y text text' h.kept a.text_after h.undecided

      go : (d : Bool) → decided b (x ++ y) ≡ d → Reached rd text₀ l₀ (x ++ y) r text' l'
      go true d = inr (record { decided_so = d; says = rw d at said'; count = a.taken_is; kept = on; rooms = rw d at rooms' })
      go false d =
          let fits = text_fits b (x ++ y) d in
          inl
          (record {
            undecided = d;
            need = more_only r.said (rw d at said');
            held = rw a.taken_is (so_far_back f.head text (x ++ y) r.head text' a.head_is a.text_after);
            count = a.taken_is;
            kept = on;
            same_length = ap length on ∙ length-append (drop (start_in (x ++ y)) (x ++ y)) (drop (length (drop (start_in (x ++ y)) (x ++ y))) text₀) ∙ omega (arith, length-drop (length (drop (start_in (x ++ y)) (x ++ y))) text₀);
            rooms_same = rw d at rooms';
          })

-- ---- how many bytes are taken, of parts one after the other
within_by : (d : Bool) (m n : ℕ) → m ≤ n → cond d 0 (suc m) ≤ suc n
within_by true m n h = omega arith
within_by false m n h = omega arith

pub used_within : (b : ℕ) (x part : List ℕ) → used b x part ≤ length part
used_within b x [] = omega arith
used_within b x (y ∷ part) = within_by (decided b x) (used b (x ++ (y ∷ [])) part) (length part) (used_within b (x ++ (y ∷ [])) part)

-- all of a part is taken, or the outcome comes in it
pub used_or : (b : ℕ) (x part : List ℕ) → (used b x part ≡ length part) ⊎ (decided b (x ++ take (used b x part) part) ≡ true)
used_or b x [] = inl refl
used_or b x (y ∷ part) = go (decided b x) refl (used_or b (x ++ (y ∷ [])) part)
  where
    go : (d : Bool) → decided b x ≡ d → (used b (x ++ (y ∷ [])) part ≡ length part) ⊎ (decided b ((x ++ (y ∷ [])) ++ take (used b (x ++ (y ∷ [])) part) part) ≡ true)
        → (used b x (y ∷ part) ≡ length (y ∷ part)) ⊎ (decided b (x ++ take (used b x (y ∷ part)) (y ∷ part)) ≡ true)
    go true d r = inr (rw (d, append-nil x) d)
    go false d (inl e) = inl (rw d (ap suc e))
    go false d (inr e) = inr (rw d (rw (append_assoc x (y ∷ []) (take (used b (x ++ (y ∷ [])) part) part)) at e))

-- before it nothing is decided
pub used_before : (b : ℕ) (x part : List ℕ) (j : ℕ) → j < used b x part → decided b (x ++ take j part) ≡ false
used_before b x [] j l = absurd (omega arith)
used_before b x (y ∷ part) zero l = go (decided b x) refl
  where
    go : (d : Bool) → decided b x ≡ d → decided b (x ++ take 0 (y ∷ part)) ≡ false
    go true d = let z : used b x (y ∷ part) ≡ 0 = rw d in absurd (omega arith)
    go false d = rw (append-nil x) d
used_before b x (y ∷ part) (suc j) l = rw (append_assoc x (y ∷ []) (take j part)) at (used_before b (x ++ (y ∷ [])) part j (go (decided b x) refl))
  where
    go : (d : Bool) → decided b x ≡ d → j < used b (x ++ (y ∷ [])) part
    go true d = let z : used b x (y ∷ part) ≡ 0 = rw d in absurd (omega arith)
    go false d = let z : used b x (y ∷ part) ≡ suc (used b (x ++ (y ∷ [])) part) = rw d in omega arith

pub used_append : (b : ℕ) (x part rest : List ℕ) → used b x (part ++ rest) ≡ used b x part + used b (x ++ take (used b x part) part) rest
used_append b x [] rest = rw (append-nil x) (omega arith)
used_append b x (y ∷ part) rest = go (decided b x) refl (used_append b (x ++ (y ∷ [])) part rest)
  where
    go : (d : Bool) → decided b x ≡ d → used b (x ++ (y ∷ [])) (part ++ rest) ≡ used b (x ++ (y ∷ [])) part + used b ((x ++ (y ∷ [])) ++ take (used b (x ++ (y ∷ [])) part) part) rest
        → used b x (y ∷ (part ++ rest)) ≡ used b x (y ∷ part) + used b (x ++ take (used b x (y ∷ part)) (y ∷ part)) rest
    go true d e = rw (d, append-nil x) (omega (arith, used_stop b x rest d))
    go false d e = rw (d, ← (append_assoc x (y ∷ []) (take (used b (x ++ (y ∷ [])) part) part))) (omega (arith, e))

pub taken_append : (b : ℕ) (x part rest : List ℕ) (n : ℕ) → n ≡ used b (x ++ take (used b x part) part) rest
    → x ++ take (used b x part + n) (part ++ rest) ≡ (x ++ take (used b x part) part) ++ take n rest
taken_append b x part rest n e =
    ⊎_elim
    (λ (h : used b x part ≡ length part).
    rw (h, take-append-add part rest n, take_all (length part) part (omega arith)) (sym (append_assoc x part (take n rest))))
    (λ (h : decided b (x ++ take (used b x part) part) ≡ true).
    let z : n ≡ 0 = e ∙ used_stop b (x ++ take (used b x part) part) rest h in
    let y : used b x part + 0 ≡ used b x part = omega arith in
    rw (z, y, take-append-le (used b x part) part rest (used_within b x part)) (sym (append-nil (x ++ take (used b x part) part))))
    (used_or b x part)

-- ---- one call
pub stays_of : (rd : header.Reading) (f : Feeder) (part text : List ℕ) (l : Lent) (r : Feeding) (text' : List ℕ) (l' : Lent) (o : Outcome HeaderInfo) → progress f.said ≡ outcome o → FeedsBy rd f part text l r text' l' → Stays f text l r text' l'
stays_of rd f part text l r text' l' o e h = go (progress f.said) e h
  where
    go : (s : Progress) → s ≡ outcome o → FeedsAs rd s f part text l r text' l' → Stays f text l r text' l'
    go need_more q k = absurd (no_need o (sym q))
    go (outcome a) q k = k

module _ (rd : header.Reading) (text₀ : List ℕ) (l₀ : Lent) where
  pub call_on : (x : List ℕ) (f : Feeder) (part text : List ℕ) (l : Lent) (r : Feeding) (text' : List ℕ) (l' : Lent) → Reached rd text₀ l₀ x f text l → FeedsBy rd f part text l r text' l'
      → (r.used ≡ used (length text₀) x part) × Reached rd text₀ l₀ (x ++ take (used (length text₀) x part) part) r.feeder text' l'
  call_on x f part text l r text' l' (inl h) k =
      let t : TakesBy rd f.head f.taken part text l r text' l' = rw h.need at k in
      let u : r.used ≡ used (length text₀) x part = t.used_is ∙ rw (h.same_length, h.held) in
      let a : After rd (x ++ take (used (length text₀) x part) part) f.head text l r.feeder text' l' = rw (h.held, u) at t.after in
      let a' : After rd (x ++ take (used (length text₀) x part) part) f.head text l₀ r.feeder text' l' =
      subst (λ (z : Lent). After rd (x ++ take (used (length text₀) x part) part) f.head text z r.feeder text' l') h.rooms_same a in
      let h' : Pending text₀ l₀ x f text l₀ = subst (λ (z : Lent). Pending text₀ l₀ x f text z) h.rooms_same h in
      (u, after_said rd text₀ l₀ x (take (used (length text₀) x part) part) f text r.feeder text' l' h' a')
  call_on x f part text l r text' l' (inr h) k =
      let s = stays_of rd f part text l r text' l' _ h.says k in
      let z = used_stop (length text₀) x part h.decided_so in
      let y : x ++ take (used (length text₀) x part) part ≡ x = rw z (append-nil x) in (
        s.used_none ∙ sym z,
        rw y (inr (record { decided_so = h.decided_so; says = rw s.same_feeder h.says; count = rw s.same_feeder h.count; kept = s.same_text ∙ h.kept; rooms = s.same_rooms ∙ h.rooms })),
      )

  pub fresh_pending : Pending text₀ l₀ [] fresh_feeder text₀ l₀
  unfolding so_far
  fresh_pending = record { undecided = short_undecided (length text₀) [] (omega arith); need = refl; held = refl; count = refl; kept = refl; same_length = refl; rooms_same = refl }

  pub fresh_reached : Reached rd text₀ l₀ [] fresh_feeder text₀ l₀
  fresh_reached = inl fresh_pending
