-- THE FIRST 65,537 BYTES OF A FILE GIVE ITS REPORT, AND 131,072 BYTES ARE ENOUGH FOR IT. A header that was read has at most 512 entries and 16,384 name bytes, the room that
-- there was for them; a refusal's line is a word and a number.
use Rattle.header.specs.declared.Header as declared
use Rattle.std.specs.Prelude.{Err, Ok, Result}
use Prim.Native.Nat.{ℕ, suc, ◌+◌, ◌*◌, ◌/◌, ◌^◌, ◌<◌, ◌≤◌}
use native.Mathlib.Omega.{arith}
use mathlib.Core.Path.{◌≡◌, refl, sym, ap, subst, ◌∙◌}
use mathlib.Core.Logic.{⊎_elim}
use mathlib.Core.Bool.{Bool, true, false, ◌||◌}
use mathlib.Core.List.{List, [], ◌∷◌}
use lib.Dec.{ltb}
use lib.ListN.{length, take, drop, length-append, length-take, length-replicate}
use lib.Seq.{take-take}
use borrow.Author.Tests.{lt-ltb, le-ltb, leb-true, ltb-false}
use Rattle.refusal.specs.Numbers.{last_number}
use Rattle.counts.specs.Outcome.{Outcome, gives, refused, each, afterwards}
use Rattle.counts.specs.Lists.{at_front}
use Rattle.counts.specs.Owes.{roomed}
use Rattle.counts.specs.declared.Bytes.{Bytes}
use Rattle.counts.proofs.Apart.{gives_apart, gives_refused, refused_gives}
use Rattle.counts.proofs.Holds.{Holds, then_holds, then_any, unless_holds, holds_of}
use Rattle.counts.proofs.Owes.{roomed_whole}
use Rattle.counts.proofs.Sides.{lt_or_ge}
use Rattle.refusal.specs.declared.Refusal.{Refusal}
use Rattle.refusal.specs.Answers.{bytes_answer}
use Rattle.decimal.proofs.Lengths.{printed_u64}
use Rattle.dtype.specs.Record.{entry_width}
use Rattle.dtype.proofs.Seen.{or_left, or_right}
use Rattle.record.specs.Prefix.{Prefix, data_start_of, prefix, missing, text_held}
use Rattle.record.specs.Rooms.{Rooms, Lent, needs, too_small, rooms_of}
use Rattle.record.specs.Header.{Header, record_in, stored}
use Rattle.record.proofs.Numbers.{Numbered, then_numbered, in_numbered, prefix_numbered, stored_numbered, part_numbered}
use Rattle.record.proofs.RoundTrips.{read_readable}
use Rattle.list_text.proofs.Lengths.{listing_length}
use Rattle.judge.specs.Judged.{reading}
use Rattle.judge.proofs.Top.{reading_keeps}
use Rattle.header.specs.Reads.{after_prefix, held_into}
use Rattle.list_file.specs.Report.{held_most, fresh, text_for, report_of, Reports}
use Rattle.list_file.specs.Said.{said_text, WritesSaid}
use Rattle.list_file.specs.Enough.{WritesReport}
use Rattle.read_back.proofs.Held.{held_whole}

-- the report of a file's first 65,537 bytes is the report of the file
abbrev pub FrontReports : Type 0
FrontReports = (file : List ℕ) → report_of (take (suc held_most) file) ≡ report_of file

-- the program's room for the text
abbrev pub text_room : ℕ
text_room = 131072

-- no report is longer
abbrev pub ReportFits : Type 0
ReportFits = (file : List ℕ) → length (report_of file) ≤ text_room

-- ---- one byte more than is held shows whether the file is longer
longer_same : (file : List ℕ) → ltb held_most (length (take (suc held_most) file)) ≡ ltb held_most (length file)
longer_same file =
    let n = length-take (suc held_most) file in
    ⊎_elim (λ l. lt-ltb held_most (length (take (suc held_most) file)) (omega (arith, n, l)) ∙ sym (lt-ltb held_most (length file) l))
    (λ g. le-ltb held_most (length (take (suc held_most) file)) (omega (arith, n, g)) ∙ sym (le-ltb held_most (length file) g))
    (lt_or_ge held_most (length file))

pub front_reports : FrontReports
unfolding report_of
front_reports file = rw (report_of, longer_same file, take-take held_most (suc held_most) file (omega arith))

-- ---- the listing of a header that was read
module _ (longer : Bool) (file : List ℕ) (l : Lent) where
  -- it starts its data inside the bytes that are held
  start_held : Holds (λ h. h.data_start ≤ length file) (held_into longer file l)
  unfolding stored text_held
  start_held =
      let Inside : Header → Type 0 = λ h. h.data_start ≤ length file in
      then_any Inside (prefix file) (λ p. after_prefix longer file p l)
      (λ p. then_holds (λ s. data_start_of p ≤ length file) Inside (text_held longer p file) _
      (unless_holds (λ s. data_start_of p ≤ length file) (ltb (length file) (data_start_of p)) (missing longer) _ (λ e. ltb-false (length file) (data_start_of p) e))
      (λ s inside. then_any Inside (record_in reading s) (stored (rooms_of l) p)
      (λ r. unless_holds Inside (too_small (rooms_of l) (needs r)) 23 _ (λ e. inside))))

  text_numbered : (p : Prefix) → Numbered (text_held longer p file)
  unfolding text_held
  text_numbered p = go longer
    where
      go : (b : Bool) → Numbered (text_held b p file)
      go true = part_numbered 23 p file (refl, refl)
      go false = part_numbered 3 p file (refl, refl)

  -- or it is refused with one of document 01's numbers
  pub held_numbered : Numbered (held_into longer file l)
  held_numbered =
      then_numbered (prefix file) (λ p. after_prefix longer file p l) (prefix_numbered file)
      (λ p. then_numbered (text_held longer p file) _ (text_numbered p)
      (λ s. then_numbered (record_in reading s) (stored (rooms_of l) p) (in_numbered reading s) (stored_numbered (rooms_of l) p)))

fresh_entries : (rooms_of fresh).entries ≡ 512
unfolding fresh
fresh_entries = ap (λ (n : ℕ). n / entry_width) (length-replicate {A = ℕ} (entry_width * 512) 0)

fresh_names : (rooms_of fresh).name_bytes ≡ 16384
unfolding fresh
fresh_names = length-replicate {A = ℕ} 16384 0

-- what a room that is not too small holds
entries_held : (room need : Rooms) → too_small room need ≡ false → need.entries ≤ room.entries
entries_held room need e =
    let few = ltb room.entries need.entries in
    let short = ltb room.name_bytes need.name_bytes in
    ltb-false room.entries need.entries (or_left few short (or_left (few || short) (ltb room.rank need.rank) e))

names_held : (room need : Rooms) → too_small room need ≡ false → need.name_bytes ≤ room.name_bytes
names_held room need e =
    let few = ltb room.entries need.entries in
    let short = ltb room.name_bytes need.name_bytes in
    ltb-false room.name_bytes need.name_bytes (or_right few short (or_left (few || short) (ltb room.rank need.rank) e))

module _ (longer : Bool) (file : List ℕ) (l : Lent) (short : length file < 2 ^ 64) where
  fits_by : (o : Outcome Header) → held_into longer file l ≡ o → length (text_for o) ≤ 1476 + 78 * (rooms_of l).entries + 2 * (rooms_of l).name_bytes
  fits_by (gives h) e =
      let r = read_readable reading reading_keeps file (rooms_of l) h (held_whole longer file l h e) in
      let start = holds_of (λ k. k.data_start ≤ length file) e (start_held longer file l) in
      omega (
        arith,
        listing_length h.version h.data_start h.says [] (omega (arith, start, short)) r.writable.sound r.writable.limits,
        entries_held (rooms_of l) (needs h.says) r.stored_in,
        names_held (rooms_of l) (needs h.says) r.stored_in,
      )
  fits_by (refused n) e =
      let low = leb-true n last_number (subst (λ (o : Outcome Header). Numbered o) e (held_numbered longer file l)).so.1 in
      omega (arith, printed_u64 n (10 ∷ []) (omega (arith, low)))

  held_fits : length (text_for (held_into longer file l)) ≤ 1476 + 78 * (rooms_of l).entries + 2 * (rooms_of l).name_bytes
  held_fits = fits_by (held_into longer file l) refl

  -- docs/RULES.md, "Room that is always enough": with room for the largest record
  pub largest_fits : (rooms_of l).entries ≤ 512 → (rooms_of l).name_bytes ≤ 65536 → length (text_for (held_into longer file l)) ≤ 172484
  largest_fits en ns = omega (arith, held_fits, en, ns)

pub report_fits : ReportFits
unfolding report_of
report_fits file =
    let longer = ltb held_most (length file) in
    omega (arith, held_fits longer (take held_most file) fresh (omega (arith, length-take held_most file)), fresh_entries, fresh_names)

-- ---- with that room the text is written
module _ (file room : List ℕ) (r : Result Bytes Refusal) (room' : List ℕ) (enough : text_room ≤ length room) (w : Reports file room r room') where
  fits : roomed 28 room (report_of file) ≡ gives (report_of file)
  fits = roomed_whole 28 room (report_of file) (omega (arith, report_fits file, enough))

  whole : bytes_answer r ≡ gives (length (report_of file))
  whole = w.answered ∙ ap (each length) fits

  pub report_written : (n : Bytes) → r ≡ Ok n → WritesReport file room n room'
  report_written n e =
      record { answered = gives_apart (sym (ap bytes_answer e) ∙ whole); after = w.room_after ∙ ap (λ (o : Outcome (List ℕ)). afterwards at_front o room) fits }

  pub never_refused : (why : Refusal) → r ≡ Err why → ⊥
  never_refused why e = refused_gives (sym (ap bytes_answer e) ∙ whole)

-- ---- as many bytes as are returned are in the room
pub report_inside : (file room : List ℕ) (n : Bytes) (room' : List ℕ) → WritesReport file room n room' → n.0 ≤ length room'
report_inside file room n room' w =
    let text = report_of file in
    omega (arith, w.answered, ap length w.after, length-append text (drop (length text) room))

pub said_inside : (r : Result declared.Header Refusal) (l : Lent) (room : List ℕ) (x : Result Bytes Refusal) (room' : List ℕ) (n : Bytes) → WritesSaid r l room x room' → x ≡ Ok n → n.0 ≤ length room'
said_inside r l room x room' n w e = go (said_text r l room) (sym (ap bytes_answer e) ∙ w.answered) w.room_after
  where
    go : (o : Outcome (List ℕ)) → gives n.0 ≡ each length o → room' ≡ afterwards at_front o room → n.0 ≤ length room'
    go (gives text) f g = omega (arith, gives_apart f, ap length g, length-append text (drop (length text) room))
    go (refused k) f g = gives_refused f
