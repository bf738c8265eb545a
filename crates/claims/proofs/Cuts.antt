-- HOWEVER A HEADER IS CUT (specs/Cuts.antt). A run takes as many bytes as one part would that has all of them, and by header_feed/proofs/Due.antt that is up to the byte with which the outcome comes; what it has
-- reached there (header_feed/proofs/Reached.antt) is what the whole-slice reader gives.
use Prim.Native.Nat.{ℕ, zero, suc, ◌+◌, ◌*◌, ◌<◌, ◌≤◌, min}
use native.Mathlib.Omega.{arith}
use mathlib.Core.Path.{◌≡◌, refl, ap, sym, ◌∙◌, subst}
use mathlib.Core.Logic.{◌⊎◌, inl, inr, ⊎_elim}
use mathlib.Core.List.{List, [], ◌∷◌, ◌++◌, append-nil}
use mathlib.Core.Bool.{Bool, true, false, not, cond}
use lib.Dec.{eqb, ltb}
use lib.ListN.{length, get_or, take, drop, replicate, length-append, length-take, length-drop, take-append-drop}
use lib.Seq.{take_at, length-take-le, get_or-append-add}
use borrow.Author.Tests.{lt-ltb, le-ltb, lt-leb, le-leb, leb-true}
use Rattle.counts.specs.Lists.{at_front, AllBytes}
use Rattle.counts.specs.Outcome.{Outcome, gives, refused, then, each, unless, afterwards}
use Rattle.counts.proofs.AllBytes.{bytes_append}
use Rattle.counts.proofs.Sides.{lt_or_ge}
use Rattle.refusal.specs.declared.Refusal.{Refusal}
use Rattle.record.specs.Prefix.{version_of, Prefix, data_start_of, prefix, text_held}
use Rattle.dtype.specs.Record.{Record}
use Rattle.record.specs.Rooms.{Rooms, needs, too_small, Lent, rooms_of}
use Rattle.record.specs.Header as header
use Rattle.judge.specs.Judged.{reading}
use Rattle.judge.proofs.Top.{reading_keeps}
use Rattle.header_prefix.proofs.Bytes.{short_is_1}
use Rattle.header.specs.Reads.{HeaderInfo, header_info, header_is}
use Rattle.header_feed.specs.declared.Fed.{Fed}
use Rattle.header_feed.specs.declared.Feeder.{Feeder}
use Rattle.header_feed.specs.declared.Feeding.{Feeding}
use Rattle.header_feed.specs.Due.{header_with, start_in, due, decided, used}
use Rattle.header_feed.specs.Feeds.{Progress, need_more, outcome, progress, cut_short, ended, so_far, Kept, After, TakesBy, FeedsAs, FeedsBy, fresh_feeder}
use Rattle.header_feed.proofs.Prefixes.{start_bounds, given_whole}
use Rattle.header_feed.proofs.Decides.{other_decided, buffer_decided, end_decided}
use Rattle.header_feed.proofs.Outcomes.{said_apart, feeder_of}
use Rattle.header_feed.proofs.Calls.{buffer_short}
use Rattle.header_feed.proofs.Verdicts.{Verdict, short, three, other, no_buffer, part_text, whole_text_lem, verdict, apart, settled_stays}
use Rattle.header_feed.proofs.Reached.{Pending, Reached, stays_of, call_on, fresh_pending, fresh_reached, used_append, taken_append, used_within}
use Rattle.header_feed.proofs.Due.{due_is, due_reached, due_least, used_due}
use Rattle.npy_codes.specs.Codes.{code, order_for, header_values}
use Rattle.npy_codes.specs.Feeders.{progress_code, progress_values, ReturnsProgress, feeder_numbers, saying_numbers, head_for, taken_for, or_no_feeder, header_for, saying, ended_numbers}
use Rattle.refusal.specs.Numbers.{number_of, is_refusal}
use Rattle.npy_codes.proofs.FeederNumbers.{low_length, says_refusal}
use Rattle.npy_codes.proofs.Feeders.{refusal_known, saying_back, taken_back, head_back, zeros_need_more, zeros_head, zeros_taken}
use Rattle.npy.specs.Feeding.{NoFeederInC, FeedsAsInC, FeedsByInC, EndsSayingInC, EndsNoneInC, EndsAsInC}
use Rattle.value.proofs.Stored.{bytes_take, bytes_drop}
use Rattle.claims.specs.Beyond.{SameRest}
use Rattle.claims.specs.Functions.{Read}
use Rattle.claims.proofs.Beyond.{header_rest}
use Rattle.claims.specs.Cuts.{joined, Run, no_call, call, TooShort, LongEnough, HoweverCut, AfterOutcome, judged, work, WorkLinear, RoomsUnchanged, RestKept, MoreBefore, RunInC, last_call, call_before, HoweverCutInC, MoreBeforeInC, AfterOutcomeInC, FeedCodes}

-- ---- calls by one reading
pub data RunBy (rd : header.Reading) : Feeder → (text : List ℕ) → Lent → List (List ℕ) → Feeder → (text' : List ℕ) → Lent → (total : ℕ) → Type 0 where
  none_by : {f : Feeder} {text : List ℕ} {l : Lent} → RunBy rd f text l [] f text l 0
  one_by : {f : Feeder} {text : List ℕ} {l : Lent} {part : List ℕ} {parts : List (List ℕ)} (x : Feeding) (text₁ : List ℕ) (l₁ : Lent) {f' : Feeder} {text' : List ℕ} {l' : Lent} (n : ℕ)
      → FeedsBy rd f part text l x text₁ l₁ → RunBy rd x.feeder text₁ l₁ parts f' text' l' n → RunBy rd f text l (part ∷ parts) f' text' l' (x.used + n)

run_by : {f : Feeder} {text : List ℕ} {l : Lent} {parts : List (List ℕ)} {f' : Feeder} {text' : List ℕ} {l' : Lent} {n : ℕ} → (rd : header.Reading) → header.Keeps rd → Run f text l parts f' text' l' n
    → RunBy rd f text l parts f' text' l' n
run_by rd keeps no_call = none_by
run_by rd keeps (call x text₁ l₁ n c run) = one_by x text₁ l₁ n (c rd keeps) (run_by rd keeps run)

module _ (rd : header.Reading) (text₀ : List ℕ) (l₀ : Lent) where
  b : ℕ
  b = length text₀

  pub run_on : (x : List ℕ) (f : Feeder) (text : List ℕ) (l : Lent) (parts : List (List ℕ)) (f' : Feeder) (text' : List ℕ) (l' : Lent) (n : ℕ) → Reached rd text₀ l₀ x f text l → RunBy rd f text l parts f' text' l' n
      → (n ≡ used (length text₀) x (joined parts)) × Reached rd text₀ l₀ (x ++ take n (joined parts)) f' text' l'
  run_on x f text l [] f' text' l' n h none_by = (refl, rw (append-nil x) h)
  run_on x f text l (part ∷ parts) f' text' l' n h (one_by r text₁ l₁ m k run) =
      let c = call_on rd text₀ l₀ x f part text l r text₁ l₁ h k in
      let i = run_on (x ++ take (used (length text₀) x part) part) r.feeder text₁ l₁ parts f' text' l' m c.1 run in
      let e = taken_append (length text₀) x part (joined parts) m i.0 in (
        rw (c.0, i.0) (sym (used_append (length text₀) x part (joined parts))),
        rw (c.0, e) i.1,
      )

-- ---- whether the outcome comes with a file
module _ (b : ℕ) (file : List ℕ) where
  pub comes : due b file ≤ length file → decided b file ≡ true
  unfolding decided
  comes h = le-leb (due b file) (length file) h

  pub waits : length file < due b file → decided b file ≡ false
  unfolding decided
  waits h = lt-leb (due b file) (length file) h

  -- a buffer that is too short brings the outcome
  pub short_comes : TooShort b file → decided b file ≡ true
  short_comes s = buffer_decided b file s.0 s.1 s.2

-- ---- the whole-slice reader
module _ (rd : header.Reading) (b : ℕ) (file : List ℕ) (l : Lent) where
  -- without 36
  with_whole : LongEnough b file → header_with rd b file l ≡ header.held_by rd false file l
  unfolding header_with
  with_whole h = go (prefix file) refl
    where
      go : (o : Outcome Prefix) → prefix file ≡ o → header_with rd b file l ≡ header.held_by rd false file l
      go (refused k) e = rw (header_with, e)
      go (gives p) e = rw (header_with, e, le-ltb b p.text_length (h p e))

  -- what it gives of bytes with which no outcome comes
  not_enough : decided b file ≡ false → header.held_by rd false file l ≡ refused (cut_short (length file))
  unfolding text_held
  not_enough d = go (verdict b file)
    where
      go : Verdict b file → header.held_by rd false file l ≡ refused (cut_short (length file))
      go (short h) = rw (lt-ltb (length file) 8 h, short_is_1 file h)
      go (three h e) = rw (le-ltb (length file) 8 h, e)
      go (other k h e n) = absurd (apart (decided b file) (other_decided b file k h e n) d)
      go (no_buffer p e h) = absurd (apart (decided b file) (buffer_decided b file p e h) d)
      go (part_text p e h m) = rw (le-ltb (length file) 8 (given_whole file p e).long, e, text_held, lt-ltb (length file) (data_start_of p) m)
      go (whole_text_lem p e h m) = absurd (apart (decided b file) (end_decided b file p e m) d)

-- ---- what a run from the start has reached, by one reading
pub record Arrived (rd : header.Reading) (file text : List ℕ) (l : Lent) (f : Feeder) (text' : List ℕ) (l' : Lent) (total : ℕ) : Type 0 where
  pub used_in_all : total ≡ min (due (length text) file) (length file)
  pub kept : Kept (take total file) text text'
  pub taken_is : f.taken ≡ total
  pub more : length file < due (length text) file → (f.said ≡ Fed.More) × (l' ≡ l)
  pub early : length file < due (length text) file → header.held_by rd false file l ≡ refused (cut_short (length file))
  pub too_short : TooShort (length text) file → (f.said ≡ Fed.Refused Refusal.Buffer) × (l' ≡ l)
  pub same : due (length text) file ≤ length file → LongEnough (length text) file
      → (progress f.said ≡ outcome (each header_info (header.held_by rd false file l))) × (l' ≡ afterwards header.holding_header (header.held_by rd false file l) l)

module _ (rd : header.Reading) (parts : List (List ℕ)) (text : List ℕ) (l : Lent) (f : Feeder) (text' : List ℕ) (l' : Lent) (n : ℕ) (run : RunBy rd fresh_feeder text l parts f text' l' n) where
  file : List ℕ
  file = joined parts

  on : (n ≡ used (length text) [] file) × Reached rd text l (take n file) f text' l'
  unfolding file
  on = run_on rd text l [] fresh_feeder text l parts f text' l' n (fresh_reached rd text l) run

  total_is : n ≡ min (due (length text) file) (length file)
  total_is = on.0 ∙ used_due (length text) file

  n_length : length (take n file) ≡ n
  n_length = length-take-le n file (omega (arith, total_is))

  whole : take n file ++ drop n file ≡ file
  whole = take-append-drop n file

  held : Reached rd text l (take n file) f text' l' → Kept (take n file) text text' × (f.taken ≡ n)
  held (inl h) = (h.kept, h.count ∙ n_length)
  held (inr h) = (h.kept, h.count ∙ n_length)

  -- the outcome was said of the bytes taken, and more bytes leave it
  settled : decided (length text) file ≡ true → Reached rd text l (take n file) f text' l'
      → (progress f.said ≡ outcome (each header_info (header_with rd (length text) file l))) × (l' ≡ afterwards header.holding_header (header_with rd (length text) file l) l)
  unfolding decided
  settled d (inl h) =
      let reached : due (length text) file ≤ length file = leb-true (due (length text) file) (length file) d in
      absurd (apart (decided (length text) (take n file)) (due_taken reached) h.undecided)
    where
      due_taken : due (length text) file ≤ length file → decided (length text) (take n file) ≡ true
      due_taken r = due_reached (length text) file n (omega (arith, total_is)) (omega (arith, total_is))
  settled d (inr h) =
      let out : header_with rd (length text) (take n file) l ≡ header_with rd (length text) file l = sym (rw whole at (settled_stays rd (length text) (take n file) (drop n file) l h.decided_so).1) in
      (h.says ∙ ap (λ (z : Outcome header.Header). outcome (each header_info z)) out, h.rooms ∙ ap (λ (z : Outcome header.Header). afterwards header.holding_header z l) out)

  waiting : length file < due (length text) file → Reached rd text l (take n file) f text' l' → (f.said ≡ Fed.More) × (l' ≡ l)
  waiting u (inl h) = (h.need, h.rooms_same)
  waiting u (inr h) = absurd (apart (decided (length text) file) (rw whole at (settled_stays rd (length text) (take n file) (drop n file) l h.decided_so).0) (waits (length text) file u))

  pub arrived : Arrived rd (joined parts) text l f text' l' n
  unfolding file
  arrived =
      record {
        used_in_all = total_is;
        kept = (held on.1).0;
        taken_is = (held on.1).1;
        more = λ u. waiting u on.1;
        early = λ u. not_enough rd (length text) file l (waits (length text) file u);
        too_short = λ s.
            let z = settled (short_comes (length text) file s) on.1 in
            let o = buffer_short rd (length text) file l s.0 s.1 s.2 in
            (said_apart f.said (Fed.Refused Refusal.Buffer) (z.0 ∙ rw o), z.1 ∙ rw o);
        same = λ u e.
            let z = settled (comes (length text) file u) on.1 in
            let o = with_whole rd (length text) file l e in
            (z.0 ∙ rw o, z.1 ∙ rw o);
      }

refused_no_header : (k : ℕ) (h : HeaderInfo) (p : Progress) → p ≡ outcome (refused k) → p ≡ outcome (gives h) → ⊥
refused_no_header k h p e q = let z : ◌≡◌ {A = ℕ} 0 1 = cc in omega arith

more_no_header : (h : HeaderInfo) (p : Progress) → p ≡ need_more → p ≡ outcome (gives h) → ⊥
more_no_header h p e q = let z : ◌≡◌ {A = ℕ} 0 1 = cc in omega arith

-- ---- the data of a header that is read starts after the bytes that were used
start_is : (rd : header.Reading) (file : List ℕ) (p : Prefix) (rooms : Rooms) (h : header.Header) → header.after_prefix_by rd false file p rooms ≡ gives h → h.data_start ≡ data_start_of p
unfolding header.stored
start_is rd file p rooms h e = by_text (text_held false p file) e
  where
    by_room : (r : Record) (b : Bool) → unless b 23 (gives (record { version = p.version; says = r; data_start = data_start_of p })) ≡ gives h → h.data_start ≡ data_start_of p
    by_room r true q = let z : ◌≡◌ {A = ℕ} 0 1 = cc in absurd (omega arith)
    by_room r false q = let z : ◌≡◌ {A = header.Header} (record { version = p.version; says = r; data_start = data_start_of p }) h = cc in sym (ap (λ (k : header.Header). k.data_start) z)

    by_record : (o : Outcome Record) → then o (header.stored rooms p) ≡ gives h → h.data_start ≡ data_start_of p
    by_record (gives r) q = by_room r (too_small rooms (needs r)) q
    by_record (refused k) q = let z : ◌≡◌ {A = ℕ} 0 1 = cc in absurd (omega arith)

    by_text : (o : Outcome (List ℕ)) → then o (λ text. then (header.record_in rd text) (header.stored rooms p)) ≡ gives h → h.data_start ≡ data_start_of p
    by_text (gives text) q = by_record (header.record_in rd text) q
    by_text (refused k) q = let z : ◌≡◌ {A = ℕ} 0 1 = cc in absurd (omega arith)

module _ (rd : header.Reading) (file text : List ℕ) (l : Lent) (f : Feeder) (text' : List ℕ) (l' : Lent) (n : ℕ) (a : Arrived rd file text l f text' l' n) (h : HeaderInfo) (e : progress f.said ≡ outcome (gives h)) where
  -- the header by the whole-slice reader
  whole_start : (p : Prefix) → prefix file ≡ gives p → due (length text) file ≤ length file → p.text_length ≤ length text → n ≡ h.data_start
  whole_start p q u r =
      let enough : LongEnough (length text) file = λ p' q'. let z : p' ≡ p = cc in rw z r in
      let same : outcome (gives h) ≡ outcome (each header_info (header.held_by rd false file l)) = sym e ∙ (a.same u enough).0 in
      let is_due : due (length text) file ≡ data_start_of p = due_is (length text) file (gives p) q ∙ rw (le-ltb (length text) p.text_length r) in
      go (header.held_by rd false file l) refl same (a.used_in_all ∙ omega (arith, is_due))
    where
      go : (o : Outcome header.Header) → header.held_by rd false file l ≡ o → outcome (gives h) ≡ outcome (each header_info o) → n ≡ data_start_of p → n ≡ h.data_start
      go (gives k) w s t =
          let z : h ≡ header_info k = cc in
          let d : k.data_start ≡ data_start_of p = start_is rd file p (rooms_of l) k (rw q at w) in
          t ∙ sym d ∙ sym (ap (λ (i : HeaderInfo). i.data_start) z)
      go (refused k) w s t = let z : ◌≡◌ {A = ℕ} 0 1 = cc in absurd (omega arith)

  pub to_data : n ≡ h.data_start
  to_data =
      ⊎_elim
      (λ (u : length file < due (length text) file). absurd (more_no_header h (progress f.said) (ap progress (a.more u).0) e))
      (λ (u : due (length text) file ≤ length file). go u (prefix file) refl)
      (lt_or_ge (length file) (due (length text) file))
    where
      go : due (length text) file ≤ length file → (o : Outcome Prefix) → prefix file ≡ o → n ≡ h.data_start
      go u (gives p) q =
          ⊎_elim
          (λ (r : length text < p.text_length). absurd (refused_no_header 36 h (progress f.said) (ap progress (a.too_short (p, q, r)).0) e))
          (λ (r : p.text_length ≤ length text). whole_start p q u r)
          (lt_or_ge (length text) p.text_length)
      go u (refused k) q =
          let enough : LongEnough (length text) file = λ p' q'. let z : ◌≡◌ {A = ℕ} 0 1 = cc in absurd (omega arith) in
          let none : header.held_by rd false file l ≡ refused k = rw q in
          absurd (refused_no_header k h (progress f.said) ((a.same u enough).0 ∙ rw none) e)

pub however_cut : HoweverCut
however_cut parts text l f₀ f text' l' n start run x m whole =
    let a = arrived reading parts text l f text' l' n (run_by reading reading_keeps (rw start at run)) in
    let answered = whole.answered reading reading_keeps in
    let rooms = whole.after reading reading_keeps in
    record {
      used_in_all = a.used_in_all;
      kept = a.kept;
      says_more = λ u. (ap progress (a.more u).0, (a.more u).1);
      ends_early = λ u f' e.
          let more = (a.more u).0 in
          let taken : f.taken ≡ length (joined parts) = a.taken_is ∙ a.used_in_all ∙ omega arith in
          (e.says ∙ rw (more, taken), answered ∙ ap (each header_info) (a.early u));
      says_36 = λ t. (ap progress (a.too_short t).0, (a.too_short t).1);
      says_same = λ u e. let z = a.same u e in (z.0 ∙ ap outcome (sym answered), z.1 ∙ sym rooms);
      used_to_data = λ h e. to_data reading (joined parts) text l f text' l' n a h e;
    }

-- before the byte that is due for an input, its first bytes are before the one that is due for them
still_waiting : (b : ℕ) (file later : List ℕ) → length file < due b (file ++ later) → length file < due b file
still_waiting b file later before =
    let front : take (length file) (file ++ later) ≡ file = take_at file later (length file) refl in
    let long : length (file ++ later) ≡ length file + length later = length-append file later in
    ⊎_elim
    (λ (u : length file < due b file). u)
    (λ (u : due b file ≤ length file). absurd (omega (arith, due_least b (file ++ later) (length file) (omega arith) (rw front (comes b file u)))))
    (lt_or_ge (length file) (due b file))

pub more_before : MoreBefore
more_before parts later text l f₀ f text' l' n start run before =
    let a = arrived reading parts text l f text' l' n (run_by reading reading_keeps (rw start at run)) in
    let waiting = still_waiting (length text) (joined parts) later before in
    let m = a.more waiting in
    (ap progress m.0, a.used_in_all ∙ omega arith, m.1)

-- ---- after an outcome
no_more : (o : Outcome HeaderInfo) → outcome o ≡ need_more → ⊥
no_more o e = let z : ◌≡◌ {A = ℕ} 0 1 = cc in omega arith

ended_no_more : (n : ℕ) (p : Progress) → ended n p ≡ need_more → ⊥
ended_no_more n need_more e = no_more (refused (cut_short n)) e
ended_no_more n (outcome o) e = no_more o e

pub after_outcome : AfterOutcome
after_outcome =
    record {
      feed_again = λ f part text l x text' l' o e h. stays_of reading f part text l x text' l' o e (h reading reading_keeps);
      end_again = λ f f' o e h. feeder_of f' f h.same_head h.same_taken (said_apart f'.said f.said (h.says ∙ rw e));
      end_says = λ f f' h e. ended_no_more f.taken (progress f.said) (sym h.says ∙ e);
    }

-- ---- work
-- calls of a feeder that has said its outcome
idle : (o : Outcome HeaderInfo) (f : Feeder) (text : List ℕ) (l : Lent) (parts : List (List ℕ)) (f' : Feeder) (text' : List ℕ) (l' : Lent) (n : ℕ) → progress f.said ≡ outcome o → (run : Run f text l parts f' text' l' n)
    → work run ≡ 0
idle o f text l [] f' text' l' n e no_call = refl
idle o f text l (part ∷ parts) f' text' l' n e (call r text₁ l₁ m c run) =
    let s = stays_of reading f part text l r text₁ l₁ o e (c reading reading_keeps) in
    let rest = idle o r.feeder text₁ l₁ parts f' text' l' m (rw s.same_feeder e) run in
    rw (s.used_none, e, rest)

module _ (text₀ : List ℕ) (l₀ : Lent) where
  -- a run that needs more judges once, what was taken before and what it takes
  worked : (x : List ℕ) (f : Feeder) (text : List ℕ) (l : Lent) (parts : List (List ℕ)) (f' : Feeder) (text' : List ℕ) (l' : Lent) (n : ℕ) → Pending text₀ l₀ x f text l → (run : Run f text l parts f' text' l' n)
      → work run ≤ (length x + 2 * n)
  worked x f text l [] f' text' l' n h no_call = omega arith
  worked x f text l (part ∷ parts) f' text' l' n h (call r text₁ l₁ m c run) =
      let d = call_on reading text₀ l₀ x f part text l r text₁ l₁ (inl h) (c reading reading_keeps) in
      let u = used (length text₀) x part in
      let len : length (x ++ take u part) ≡ length x + u = length-append x (take u part) ∙ omega (arith, length-take-le u part (used_within (length text₀) x part)) in
      rw h.need (by (λ k. worked (x ++ take u part) r.feeder text₁ l₁ parts f' text' l' m k run) len d.0 d.1)
    where
      by : (Pending text₀ l₀ (x ++ take (used (length text₀) x part) part) r.feeder text₁ l₁ → work run ≤ (length (x ++ take (used (length text₀) x part) part) + 2 * m))
          → length (x ++ take (used (length text₀) x part) part) ≡ length x + used (length text₀) x part → r.used ≡ used (length text₀) x part
          → Reached reading text₀ l₀ (x ++ take (used (length text₀) x part) part) r.feeder text₁ l₁
          → (r.used + judged need_more (progress r.feeder.said) r.feeder.taken + work run) ≤ (length x + 2 * (r.used + m))
      by again len e (inl k) =
          let none : judged need_more (progress r.feeder.said) r.feeder.taken ≡ 0 = ap (λ (s : Fed). judged need_more (progress s) r.feeder.taken) k.need in
          omega (arith, none, again k, len, e)
      by again len e (inr k) =
          let once : judged need_more (progress r.feeder.said) r.feeder.taken ≡ r.feeder.taken = ap (λ (p : Progress). judged need_more p r.feeder.taken) k.says in
          omega (arith, once, idle _ r.feeder text₁ l₁ parts f' text' l' m k.says run, k.count, len, e)

pub work_linear : WorkLinear
work_linear parts text l f₀ f text' l' n start run = go f₀ start run
  where
    go : (g : Feeder) → g ≡ fresh_feeder → (run : Run g text l parts f text' l' n) → (work run ≤ 2 * n) × (n ≤ length (joined parts))
    go g e run =
        let a = arrived reading parts text l f text' l' n (run_by reading reading_keeps (rw e at run)) in
        (omega (arith, worked text l [] g text l parts f text' l' n (rw e (fresh_pending reading text l)) run), omega (arith, a.used_in_all))

-- ---- refusals
-- where no header is said, the rooms are as they were
module _ (rd : header.Reading) (head : List ℕ) (taken : ℕ) (part text : List ℕ) (l : Lent) (x : Feeding) (text' : List ℕ) (l' : Lent) (t : TakesBy rd head taken part text l x text' l') where
  bytes : List ℕ
  bytes = so_far head taken text ++ take x.used part

  no_header : ((h : HeaderInfo) → progress x.feeder.said ≡ outcome (gives h) → ⊥) → l' ≡ l
  unfolding bytes
  no_header n = go (decided (length text) bytes) refl
    where
      by : (o : Outcome header.Header) → progress x.feeder.said ≡ outcome (each header_info o) → l' ≡ afterwards header.holding_header o l → l' ≡ l
      by (gives h) e q = absurd (n (header_info h) e)
      by (refused k) e q = q

      go : (d : Bool) → decided (length text) bytes ≡ d → l' ≡ l
      go true e = by (header_with rd (length text) bytes l) (t.after.says ∙ rw e) (t.after.rooms_after ∙ rw e)
      go false e = t.after.rooms_after ∙ rw e

pub rooms_unchanged : RoomsUnchanged
rooms_unchanged f part text l x text' l' c = go (progress f.said) (c reading reading_keeps)
  where
    go : (s : Progress) → FeedsAs reading s f part text l x text' l' → ((k : ℕ) → progress x.feeder.said ≡ outcome (refused k) → l' ≡ l) × (progress x.feeder.said ≡ need_more → l' ≡ l)
    go need_more t =
        let same = no_header reading f.head f.taken part text l x text' l' t in
        (λ k e. same (λ h q. refused_no_header k h (progress x.feeder.said) e q), λ e. same (λ h q. more_no_header h (progress x.feeder.said) e q))
    go (outcome o) s = (λ k e. s.same_rooms, λ e. s.same_rooms)

pub rest_kept : RestKept
rest_kept f part text l x text' l' h c e s = go (progress f.said) e (c reading reading_keeps)
  where
    by : (bytes : List ℕ) → After reading bytes f.head text l x.feeder text' l' → (d : Bool) → decided (length text) bytes ≡ d → SameRest h.info l l'
    by bytes a false d = absurd (more_no_header (header_is h) (progress x.feeder.said) (a.says ∙ rw d) (ap progress s))
    by bytes a true d =
        let says : outcome (gives (header_is h)) ≡ outcome (each header_info (header_with reading (length text) bytes l)) = sym (ap progress s) ∙ a.says ∙ rw d in
        let z : gives (header_is h) ≡ each header_info (header_with reading (length text) bytes l) = cc in
        header_rest h l l' (header_with reading (length text) bytes l) z (a.rooms_after ∙ rw d)

    go : (p : Progress) → p ≡ need_more → FeedsAs reading p f part text l x text' l' → SameRest h.info l l'
    go (outcome o) q t = absurd (no_more o q)
    go need_more q t = let bytes = so_far f.head f.taken text ++ take x.used part in by bytes t.after (decided (length text) bytes) refl

-- ---- in C: these twenty numbers are those of this feeder
record NumberedFeeder (ns : List ℕ) (f : Feeder) : Type 0 where
  pub says : saying ns ≡ gives (progress f.said)
  pub head_is : head_for ns ≡ f.head
  pub taken_is : taken_for ns ≡ f.taken
  pub twelve : length f.head ≡ 12
  pub bytes : AllBytes f.head

zeros_fresh : NumberedFeeder (replicate 20 0) fresh_feeder
zeros_fresh = record { says = zeros_need_more; head_is = zeros_head; taken_is = zeros_taken; twelve = refl; bytes = all_zeros 12 }
  where
    all_zeros : (n : ℕ) → AllBytes (replicate n 0)
    all_zeros zero = tt
    all_zeros (suc n) = (omega arith, all_zeros n)

front_length : (new old : List ℕ) → length new ≤ length old → length (at_front new old) ≡ length old
front_length new old h = length-append new (drop (length new) old) ∙ omega (arith, length-drop (length new) old)

module _ (ns part text : List ℕ) (l : Lent) (said used_before : List ℕ) (r : ℕ) (ns' text' : List ℕ) (l' : Lent) (said' : List ℕ) (n : ℕ) (f : Feeder) (h : NumberedFeeder ns f) (part_bytes : AllBytes part) (text_bytes : AllBytes text) where
  -- one call of the numbers is one call of the feeder
  record SameCall : Type 0 where
    pub feeding : Feeding
    pub feeds : FeedsBy reading f part text l feeding text' l'
    pub used_is : feeding.used ≡ n
    pub numbered : NumberedFeeder ns' feeding.feeder
    pub returned : ReturnsProgress (progress feeding.feeder.said) said r said'

  -- the feeder after bytes were taken has its numbers
  still : (x : Feeding) → TakesBy reading f.head f.taken part text l x text' l' → ns' ≡ feeder_numbers x.feeder → NumberedFeeder ns' x.feeder
  unfolding so_far
  still x t e =
      let taken = so_far f.head f.taken text ++ take x.used part in
      let front = take (start_in taken) taken in
      let few : length front ≤ 12 = omega (arith, length-take (start_in taken) taken, start_bounds taken) in
      let long : length x.feeder.head ≡ 12 = ap length t.after.head_is ∙ front_length front f.head (omega (arith, few, h.twelve)) ∙ h.twelve in
      let so_far_here : AllBytes (so_far f.head f.taken text) = bytes_take f.taken _ (bytes_append (take (start_in f.head) f.head) text (bytes_take (start_in f.head) f.head h.bytes) text_bytes) in
      let all : AllBytes taken = bytes_append (so_far f.head f.taken text) (take x.used part) so_far_here (bytes_take x.used part part_bytes) in
      let small : AllBytes x.feeder.head = subst AllBytes (sym t.after.head_is) (bytes_append front (drop (length front) f.head) (bytes_take (start_in taken) taken all) (bytes_drop (length front) f.head h.bytes)) in
      record {
        says = ap saying e ∙ saying_back x.feeder long;
        head_is = ap head_for e ∙ head_back x.feeder long small;
        taken_is = ap taken_for e ∙ taken_back x.feeder long;
        twelve = long;
        bytes = small;
      }

  one_same : FeedsByInC reading ns part text l said used_before r ns' text' l' said' (n ∷ []) → SameCall
  one_same c = go (progress f.said) refl (subst (λ (s : Outcome Progress). FeedsAsInC reading s ns part text l said used_before r ns' text' l' said' (n ∷ [])) h.says c)
    where
      go : (p : Progress) → progress f.said ≡ p → FeedsAsInC reading (gives p) ns part text l said used_before r ns' text' l' said' (n ∷ []) → SameCall
      go need_more e k =
          let t : TakesBy reading f.head f.taken part text l k.feeding text' l' = rw (h.head_is, h.taken_is) at k.takes in
          record {
            feeding = k.feeding;
            feeds = subst (λ (p : Progress). FeedsAs reading p f part text l k.feeding text' l') (sym e) t;
            used_is = let z : k.feeding.used ≡ n = cc k.used_after in z;
            numbered = still k.feeding t k.numbers_after;
            returned = k.returned;
          }
      go (outcome o) e k =
          record {
            feeding = record { feeder = f; used = 0 };
            feeds = subst (λ (p : Progress). FeedsAs reading p f part text l (record { feeder = f; used = 0 }) text' l') (sym e) record { used_none = refl; same_feeder = refl; same_text = k.same_text; same_rooms = k.same_rooms };
            used_is = let z : 0 ≡ n = cc k.used_none in z;
            numbered = subst (λ (m : List ℕ). NumberedFeeder m f) (sym k.same_numbers) h;
            returned = subst (λ (p : Progress). ReturnsProgress p said r said') (sym e) k.returned;
          }

record SameRun (text : List ℕ) (l : Lent) (parts : List (List ℕ)) (said : List ℕ) (r : ℕ) (ns' text' : List ℕ) (l' : Lent) (said' : List ℕ) (n : ℕ) (f : Feeder) : Type 0 where
  pub last : Feeder
  pub run : RunBy reading f text l parts last text' l' n
  pub numbered : NumberedFeeder ns' last
  pub returned : ReturnsProgress (progress last.said) said r said'

run_total : {f : Feeder} {text : List ℕ} {l : Lent} {parts : List (List ℕ)} {f' : Feeder} {text' : List ℕ} {l' : Lent} {n m : ℕ} → n ≡ m → RunBy reading f text l parts f' text' l' n → RunBy reading f text l parts f' text' l' m
run_total e run = rw e at run

-- calls of the numbers are calls of the feeder
run_same : {ns text : List ℕ} {l : Lent} {parts : List (List ℕ)} {said : List ℕ} {r : ℕ} {ns' text' : List ℕ} {l' : Lent} {said' : List ℕ} {n : ℕ} (f : Feeder) → NumberedFeeder ns f
    → RunInC ns text l parts said r ns' text' l' said' n → SameRun text l parts said r ns' text' l' said' n f
run_same f h (last_call n c) =
    let s = one_same _ _ _ _ _ _ _ _ _ _ _ n f h c.part_bytes c.text_bytes (c.feeds reading reading_keeps) in
    let total : s.feeding.used + 0 ≡ n = omega (arith, s.used_is) in
    record { last = s.feeding.feeder; run = run_total total (one_by s.feeding _ _ 0 s.feeds none_by); numbered = s.numbered; returned = s.returned }
run_same f h (call_before said₁ used₁ r₁ ns₁ text₁ l₁ said₂ n m c rest) =
    let s = one_same _ _ _ _ _ _ _ _ _ _ _ n f h c.part_bytes c.text_bytes (c.feeds reading reading_keeps) in
    let k = run_same s.feeding.feeder s.numbered rest in
    let total : s.feeding.used + m ≡ n + m = omega (arith, s.used_is) in
    record { last = k.last; run = run_total total (one_by s.feeding text₁ l₁ m s.feeds k.run); numbered = k.numbered; returned = k.returned }

-- 0 is returned for a header alone, whose data starts after the bytes used
module _ (rd : header.Reading) (file text : List ℕ) (l : Lent) (f : Feeder) (text' : List ℕ) (l' : Lent) (n : ℕ) (a : Arrived rd file text l f text' l' n) (said : List ℕ) (r : ℕ) (said' : List ℕ) where
  zero_start : ReturnsProgress (progress f.said) said r said' → (h : HeaderInfo) → r ≡ 0 → said' ≡ header_values h → n ≡ h.data_start
  zero_start s h e v = go f.said refl s.answered s.after
    where
      go : (w : Fed) → f.said ≡ w → r ≡ progress_code (progress f.said) → said' ≡ progress_values (progress f.said) said → n ≡ h.data_start
      go Fed.More q c b = let z : ◌≡◌ {A = ℕ} 0 255 = sym e ∙ c ∙ ap (λ (k : Fed). progress_code (progress k)) q in absurd (omega arith)
      go (Fed.Read k) q c b =
          let d = to_data rd file text l f text' l' n a (header_is k) (ap progress q) in
          let same : header_values h ≡ header_values (header_is k) = sym v ∙ b ∙ ap (λ (u : Fed). progress_values (progress u) said) q in
          d ∙ sym (ap (λ (x : List ℕ). get_or x 5 0) same)
      go (Fed.Refused why) q c b =
          let z : 0 ≡ number_of why = sym e ∙ c ∙ ap (λ (k : Fed). progress_code (progress k)) q in
          absurd (apart (is_refusal 0) (rw (← z) at (refusal_known why)) refl)

pub however_cut_in_c : HoweverCutInC
however_cut_in_c parts text l said r ns' text' l' said' n run r₀ m said₀ whole =
    let s = run_same fresh_feeder zeros_fresh run in
    let f = s.last in
    let a = arrived reading parts text l f text' l' n s.run in
    let answered = whole.answered reading reading_keeps in
    let rooms = whole.after reading reading_keeps in
    record {
      used_in_all = a.used_in_all;
      kept = a.kept;
      says_more = λ u. let z = a.more u in (s.returned.answered ∙ rw z.0, z.1, s.returned.after ∙ rw z.0);
      ends_early = λ u said₁ q ns'' said₂ e.
          let more = (a.more u).0 in
          let taken : taken_for ns' ≡ length (joined parts) = s.numbered.taken_is ∙ a.taken_is ∙ a.used_in_all ∙ omega arith in
          let says : saying ns' ≡ gives need_more = s.numbered.says ∙ rw more in
          let k : EndsSayingInC need_more ns' said₁ q ns'' said₂ = subst (λ (o : Outcome Progress). EndsAsInC o ns' said₁ q ns'' said₂) says e in
          (k.returned.answered ∙ rw taken, answered.answered ∙ ap (λ (o : Outcome header.Header). code (each header_info o)) (a.early u), k.returned.after);
      says_36 = λ t. let z = a.too_short t in (s.returned.answered ∙ rw z.0, z.1, s.returned.after ∙ rw z.0);
      says_same = λ u e.
          let z = a.same u e in
          (s.returned.answered ∙ ap progress_code z.0 ∙ sym answered.answered, z.1 ∙ sym rooms, s.returned.after ∙ ap (λ (p : Progress). progress_values p said) z.0 ∙ sym answered.after);
      used_to_data = λ h e v. zero_start reading (joined parts) text l f text' l' n a said r said' s.returned h e v;
    }

pub more_before_in_c : MoreBeforeInC
more_before_in_c parts later text l said r ns' text' l' said' n run before =
    let s = run_same fresh_feeder zeros_fresh run in
    let a = arrived reading parts text l s.last text' l' n s.run in
    let waiting = still_waiting (length text) (joined parts) later before in
    let m = a.more waiting in
    (s.returned.answered ∙ rw m.0, a.used_in_all ∙ omega arith, m.1, s.returned.after ∙ rw m.0)

-- ---- what any twenty numbers get
-- an outcome that they say is a header or a refusal's number
saying_known : (ns : List ℕ) (k : ℕ) → saying ns ≡ gives (outcome (refused k)) → is_refusal k ≡ true
unfolding saying
saying_known ns k = go (eqb (get_or ns 13 0) 0) (eqb (get_or ns 13 0) 255) (is_refusal (get_or ns 13 0)) refl (header_for ns)
  where
    go : (a b c : Bool) → is_refusal (get_or ns 13 0) ≡ c → (h : Outcome HeaderInfo)
        → cond a (gives need_more) (cond b (each (λ h. outcome (gives h)) h) (unless (not c) 27 (gives (outcome (refused (get_or ns 13 0)))))) ≡ gives (outcome (refused k)) → is_refusal k ≡ true
    go true b c e h q = let z : ◌≡◌ {A = ℕ} 0 1 = cc in absurd (omega arith)
    go false true c e (gives h) q = let z : ◌≡◌ {A = ℕ} 0 1 = cc in absurd (omega arith)
    go false true c e (refused n) q = let z : ◌≡◌ {A = ℕ} 0 1 = cc in absurd (omega arith)
    go false false false e h q = let z : ◌≡◌ {A = ℕ} 0 1 = cc in absurd (omega arith)
    go false false true e h q = let z : get_or ns 13 0 ≡ k = cc in rw z at e

-- and numbers that are no feeder's get 27
or_no_feeder_lem : {A : Type 0} (o : Outcome A) (k : ℕ) → or_no_feeder o ≡ refused k → k ≡ 27
or_no_feeder_lem (gives a) k q = let z : ◌≡◌ {A = ℕ} 0 1 = cc in absurd (omega arith)
or_no_feeder_lem (refused n) k q = let z : ◌≡◌ {A = ℕ} 27 k = cc in sym z

no_header_27 : (ns : List ℕ) (k : ℕ) → header_for ns ≡ refused k → k ≡ 27
unfolding header_for
no_header_27 ns k q =
    or_no_feeder_lem {A = HeaderInfo} (then (version_of (get_or ns 14 0) 0)
    (λ v. each (λ o. record { version = v; info = record { order = o; rank = get_or ns 16 0; entries = get_or ns 17 0; names = get_or ns 18 0 }; data_start = get_or ns 19 0 }) (order_for (get_or ns 15 0)))) k q

saying_refused : (ns : List ℕ) (k : ℕ) → saying ns ≡ refused k → k ≡ 27
unfolding saying
saying_refused ns k = go (eqb (get_or ns 13 0) 0) (eqb (get_or ns 13 0) 255) (is_refusal (get_or ns 13 0)) (header_for ns) (no_header_27 ns)
  where
    go : (a b c : Bool) → (h : Outcome HeaderInfo) → ((j : ℕ) → h ≡ refused j → j ≡ 27)
        → cond a (gives need_more) (cond b (each (λ h. outcome (gives h)) h) (unless (not c) 27 (gives (outcome (refused (get_or ns 13 0)))))) ≡ refused k → k ≡ 27
    go true b c h n q = let z : ◌≡◌ {A = ℕ} 0 1 = cc in absurd (omega arith)
    go false true c (gives h) n q = let z : ◌≡◌ {A = ℕ} 0 1 = cc in absurd (omega arith)
    go false true c (refused j) n q = let z : j ≡ k = cc in sym z ∙ n j refl
    go false false false h n q = let z : ◌≡◌ {A = ℕ} 27 k = cc in sym z
    go false false true h n q = let z : ◌≡◌ {A = ℕ} 0 1 = cc in absurd (omega arith)

abbrev Known : ℕ → Type 0
Known r = (r ≡ 0) ⊎ ((r ≡ 255) ⊎ (is_refusal r ≡ true))

fed_known : (s : Fed) (r : ℕ) → r ≡ progress_code (progress s) → Known r
fed_known Fed.More r e = inr (inl e)
fed_known (Fed.Read h) r e = inl e
fed_known (Fed.Refused why) r e = inr (inr (ap is_refusal e ∙ refusal_known why))

-- where the number is not 0, no header is said
other_code : (p : Progress) (room : List ℕ) (r : ℕ) (room' : List ℕ) → ReturnsProgress p room r room' → (r ≡ 0 → ⊥) → (room' ≡ room) × ((h : HeaderInfo) → p ≡ outcome (gives h) → ⊥)
other_code need_more room r room' s n = (s.after, λ h e. more_no_header h need_more refl e)
other_code (outcome (gives h)) room r room' s n = absurd (n s.answered)
other_code (outcome (refused k)) room r room' s n = (s.after, λ h e. refused_no_header k h (outcome (refused k)) refl e)

feed_coded : (ns part text : List ℕ) (l : Lent) (said used : List ℕ) (r : ℕ) (ns' text' : List ℕ) (l' : Lent) (said' used' : List ℕ) (s : Outcome Progress) → saying ns ≡ s → FeedsAsInC reading s ns part text l said used r ns' text' l' said' used'
    → Known r × ((r ≡ 0 → ⊥) → (l' ≡ l) × (said' ≡ said))
feed_coded ns part text l said used r ns' text' l' said' used' (gives need_more) e k = (
  fed_known k.feeding.feeder.said r k.returned.answered,
  λ n. let z = other_code (progress k.feeding.feeder.said) said r said' k.returned n in (no_header reading (head_for ns) (taken_for ns) part text l k.feeding text' l' k.takes z.1, z.0),
)
feed_coded ns part text l said used r ns' text' l' said' used' (gives (outcome (gives h))) e k = (inl k.returned.answered, λ n. absurd (n k.returned.answered))
feed_coded ns part text l said used r ns' text' l' said' used' (gives (outcome (refused j))) e k = (inr (inr (ap is_refusal k.returned.answered ∙ saying_known ns j e)), λ n. (k.same_rooms, k.returned.after))
feed_coded ns part text l said used r ns' text' l' said' used' (refused j) e k = (inr (inr (ap is_refusal (k.answered ∙ saying_refused ns j e))), λ n. (k.same_rooms, k.same_said))

short_known : (b : Bool) → is_refusal (cond b 1 3) ≡ true
short_known true = refl
short_known false = refl

end_coded : (ns said : List ℕ) (r : ℕ) (ns' said' : List ℕ) (s : Outcome Progress) → saying ns ≡ s → EndsAsInC s ns said r ns' said' → ((r ≡ 0) ⊎ (is_refusal r ≡ true)) × ((r ≡ 0 → ⊥) → said' ≡ said)
end_coded ns said r ns' said' (gives need_more) e k = (inr (ap is_refusal k.returned.answered ∙ short_known (ltb (taken_for ns) 8)), λ n. k.returned.after)
end_coded ns said r ns' said' (gives (outcome (gives h))) e k = (inl k.returned.answered, λ n. absurd (n k.returned.answered))
end_coded ns said r ns' said' (gives (outcome (refused j))) e k = (inr (ap is_refusal k.returned.answered ∙ saying_known ns j e), λ n. k.returned.after)
end_coded ns said r ns' said' (refused j) e k = (inr (ap is_refusal (k.answered ∙ saying_refused ns j e)), λ n. k.same_said)

-- ---- what numbers say after a call
-- the head of the numbers after bytes were taken has twelve bytes
twelve_after : (numbers part text : List ℕ) (l : Lent) (x : Feeding) (text' : List ℕ) (l' : Lent) → length numbers ≡ 20 → TakesBy reading (head_for numbers) (taken_for numbers) part text l x text' l' → length x.feeder.head ≡ 12
twelve_after numbers part text l x text' l' n t =
    let taken = so_far (head_for numbers) (taken_for numbers) text ++ take x.used part in
    let front = take (start_in taken) taken in
    let few : length front ≤ 12 = omega (arith, length-take (start_in taken) taken, start_bounds taken) in
    let long : length (head_for numbers) ≡ 12 = low_length (take 12 numbers) ∙ length-take-le 12 numbers (omega arith) in
    ap length t.after.head_is ∙ front_length front (head_for numbers) (omega (arith, few, long)) ∙ long

feed_says_so : (numbers part text : List ℕ) (l : Lent) (said used : List ℕ) (r : ℕ) (numbers' text' : List ℕ) (l' : Lent) (said' used' : List ℕ) (p : Progress) → length numbers ≡ 20 → saying numbers ≡ gives p
    → FeedsAsInC reading (gives p) numbers part text l said used r numbers' text' l' said' used' → (q : Progress) × (saying numbers' ≡ gives q) × ReturnsProgress q said r said'
feed_says_so numbers part text l said used r numbers' text' l' said' used' need_more n e k =
    (progress k.feeding.feeder.said, ap saying k.numbers_after ∙ saying_back k.feeding.feeder (twelve_after numbers part text l k.feeding text' l' n k.takes), k.returned)
feed_says_so numbers part text l said used r numbers' text' l' said' used' (outcome o) n e k = (outcome o, ap saying k.same_numbers ∙ e, k.returned)

-- the numbers after an early end
ended_says : (numbers : List ℕ) → length numbers ≡ 20 → saying (ended_numbers need_more numbers) ≡ gives (outcome (refused (cut_short (taken_for numbers))))
ended_says numbers n =
    let k = cut_short (taken_for numbers) in
    let s = saying_numbers (outcome (refused k)) in
    let thirteen : length (take 13 numbers) ≡ 13 = length-take-le 13 numbers (omega arith) in
    let at : get_or (take 13 numbers ++ s) 13 0 ≡ k = rw thirteen at (get_or-append-add (take 13 numbers) s 0 0) in
    let known : is_refusal (get_or (take 13 numbers ++ s) 13 0) ≡ true = ap is_refusal at ∙ short_known (ltb (taken_for numbers) 8) in
    says_refusal (take 13 numbers ++ s) (no_refusal_is 0 known refl) (no_refusal_is 255 known refl) known ∙ ap (λ (m : ℕ). gives (outcome (refused m))) at
  where
    no_refusal_is : {m : ℕ} (j : ℕ) → is_refusal m ≡ true → is_refusal j ≡ false → m ≡ j → ⊥
    no_refusal_is j a b e = apart (is_refusal j) (rw e at a) b

end_says_so : (numbers said : List ℕ) (r : ℕ) (numbers' said' : List ℕ) (p : Progress) → length numbers ≡ 20 → saying numbers ≡ gives p → EndsAsInC (gives p) numbers said r numbers' said'
    → (o : Outcome HeaderInfo) × (saying numbers' ≡ gives (outcome o)) × ReturnsProgress (outcome o) said r said'
end_says_so numbers said r numbers' said' need_more n e k = (refused (cut_short (taken_for numbers)), ap saying k.numbers_after ∙ ended_says numbers n, k.returned)
end_says_so numbers said r numbers' said' (outcome o) n e k = (o, ap saying k.numbers_after ∙ e, k.returned)

pub after_outcome_in_c : AfterOutcomeInC
after_outcome_in_c =
    record {
      feed_again = λ numbers part text l said used r numbers' text' l' said' used' o e c.
          subst (λ (s : Outcome Progress). FeedsAsInC reading s numbers part text l said used r numbers' text' l' said' used') e (c.feeds reading reading_keeps);
      end_again = λ numbers said r numbers' said' o e c. let k : EndsSayingInC (outcome o) numbers said r numbers' said' = subst (λ (s : Outcome Progress). EndsAsInC s numbers said r numbers' said') e c in (k.returned, k.numbers_after);
      feed_says = λ numbers part text l said used r numbers' text' l' said' used' p n e c.
          feed_says_so numbers part text l said used r numbers' text' l' said' used' p n e (subst (λ (s : Outcome Progress). FeedsAsInC reading s numbers part text l said used r numbers' text' l' said' used') e (c.feeds reading reading_keeps));
      end_says = λ numbers said r numbers' said' p n e c. end_says_so numbers said r numbers' said' p n e (subst (λ (s : Outcome Progress). EndsAsInC s numbers said r numbers' said') e c);
      end_at_once = λ said r numbers' said' c.
          let k : EndsSayingInC need_more (replicate 20 0) said r numbers' said' = subst (λ (s : Outcome Progress). EndsAsInC s (replicate 20 0) said r numbers' said') zeros_need_more c in
          (k.returned.answered, k.returned.after);
    }

pub feed_codes : FeedCodes
feed_codes =
    record {
      npy_feed = λ ns part text l said used r ns' text' l' said' used' c. feed_coded ns part text l said used r ns' text' l' said' used' (saying ns) refl (c.feeds reading reading_keeps);
      npy_feed_end = λ ns said r ns' said' c. end_coded ns said r ns' said' (saying ns) refl c;
      no_feeder = λ numbers part text l said used r numbers' text' l' said' used' n e c.
          let k : NoFeederInC n numbers text l said used r numbers' text' l' said' used' = subst (λ (s : Outcome Progress). FeedsAsInC reading s numbers part text l said used r numbers' text' l' said' used') e (c.feeds reading reading_keeps) in
          (k.answered ∙ saying_refused numbers n e, k.same_numbers, k.same_text, k.same_rooms, k.same_said, k.same_used);
      no_feeder_end = λ numbers said r numbers' said' n e c.
          let k : EndsNoneInC n numbers said r numbers' said' = subst (λ (s : Outcome Progress). EndsAsInC s numbers said r numbers' said') e c in
          (k.answered ∙ saying_refused numbers n e, k.same_numbers, k.same_said);
    }
