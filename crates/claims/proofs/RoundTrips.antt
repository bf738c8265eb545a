-- Both round trips of demand 2 (specs/RoundTrips.antt), of the Rattle functions and of the C functions. What was written is the header of the record that the check
-- accepted, which is sound; and crate record shows that the bytes of a sound record are read back. What was read is sound, and the check accepts it: so it
-- is written, apart from 4 and 28, and the same holds for its bytes.
use Rattle.std.specs.Prelude.{Ok}
use Prim.Native.Nat.{ℕ, ◌<◌, ◌≤◌}
use native.Mathlib.Omega.{arith}
use mathlib.Core.Path.{◌≡◌, refl, sym, ap, subst, ◌∙◌}
use mathlib.Core.List.{List, [], ◌∷◌, ◌++◌}
use mathlib.Core.Bool.{Bool, true, false, not}
use lib.Dec.{ltb}
use lib.ListN.{length, take}
use borrow.Author.Tests.{lt-ltb, le-ltb}
use Rattle.counts.specs.Outcome.{Outcome, gives, refused, then, each, unless, afterwards}
use Rattle.counts.specs.Lists.{at_front}
use Rattle.counts.specs.Owes.{roomed}
use Rattle.counts.proofs.Owes.{roomed_whole, roomed_short}
use Rattle.counts.proofs.Holds.{Holds, then_any, unless_holds, holds_of, then_back, each_back}
use Rattle.refusal.specs.Answers.{bytes_answer}
use Rattle.literal_grammar.specs.Print.{value_of}
use Rattle.dtype.specs.declared.Order.{Order}
use Rattle.dtype.specs.Limits.{limited}
use Rattle.dtype.specs.Record.{Record, table, names}
use Rattle.record.specs.Layout.{header_layout}
use Rattle.record.specs.Prefix.{most_text}
use Rattle.record.specs.Within.{within}
use Rattle.record.specs.Rooms.{needs, too_small, Lent, rooms_of}
use Rattle.record.specs.Header as header
use Rattle.record.specs.File.{text_length_of, file_of}
use Rattle.record.specs.Writing.{writing}
use Rattle.record.specs.Sound.{Small}
use Rattle.record.proofs.Sound.{Sound}
use Rattle.record.proofs.Printed.{text_length}
use Rattle.record.proofs.RoundTrips.{header_for, file_whole, read_readable, written_read as record_written_read, read_written as record_read_written}
use Rattle.check_record.specs.Checked.{checked_record}
use Rattle.check_record.specs.Valid.{Valid}
use Rattle.check_record.proofs.Accepts.{checked_valid, valid_checked}
use Rattle.judge.specs.Judged.{reading}
use Rattle.judge.proofs.Top.{reading_keeps}
use Rattle.header.specs.Reads.{HeaderInfo, header_info, header_answer, held_into, info_of}
use Rattle.write.specs.Writes.{header_written}
use Rattle.read_back.specs.Rooms.{table_stored, names_stored, shape_stored}
use Rattle.read_back.proofs.Accepted.{valid_sound}
use Rattle.read_back.proofs.Rooms.{front, table_whole, names_whole}
use Rattle.npy_codes.specs.Codes.{one_number, order_number, order_for, header_values}
use Rattle.npy_codes.proofs.Then.{returns_same}
use Rattle.claims.specs.Doors.{Door, in_rattle, in_c}
use Rattle.claims.specs.Functions.{WriteHeader}
use Rattle.claims.specs.InC.{NpyWriteHeader}
use Rattle.claims.specs.RoundTrips.{ComesBack, ReadBack, NpyReadBack, WrittenRead, WrittenReadInC, GoesAgain, ReadWritten, ReadWrittenInC}
use Rattle.claims.proofs.Doors.{c_returned}
use Rattle.claims.proofs.Found.{found_value, order_named, order_back, WasRead, read_was, npy_read_was, by_whole}
use Rattle.record.proofs.Numbers.{each_numbered, then_numbered}
use Rattle.claims.proofs.Numbers.{for_numbered, header_written_numbered}
use Rattle.claims.proofs.WasRead.{values_one, says_is, valid_own}
use Rattle.claims.proofs.Roomy.{roomy_fits, fits_roomy}

-- ---- what was written is the header of the record that was accepted
writing_whole : (r : Record) (room : List ℕ) → Holds (λ b. b ≡ file_of r) (writing r room)
unfolding writing roomed
writing_whole r room =
    then_any (λ b. b ≡ file_of r) (limited r) _
    (λ s. unless_holds (λ b. b ≡ file_of r) (not (within (value_of (header_layout r)) 32)) 7 _
    (λ a. unless_holds (λ b. b ≡ file_of r) (ltb most_text (text_length_of r)) 4 _
    (λ b. unless_holds (λ b. b ≡ file_of r) (ltb (length room) (length (file_of r))) 28 (gives (file_of r)) (λ c. refl))))

-- ---- the bytes of a sound record are read back
module _ {R : Type 0} (door : Door HeaderInfo R) (r : Record) (l l' : Lent) (y : R) where
  comes_back : (o : Outcome header.Header) → o ≡ unless (too_small (rooms_of l) (needs r)) 23 (gives (header_for r)) → y ≡ door.returned (each header_info o)
      → l' ≡ afterwards header.holding_header o l → ComesBack door (table r.dtype) (names r.dtype) r.shape r.order (length (file_of r)) l y l'
  comes_back o e a b = go (too_small (rooms_of l) (needs r)) refl e
    where
      go : (c : Bool) → too_small (rooms_of l) (needs r) ≡ c → o ≡ unless c 23 (gives (header_for r))
          → ComesBack door (table r.dtype) (names r.dtype) r.shape r.order (length (file_of r)) l y l'
      go true small k =
          record {
            roomy = λ h. absurd (let z = sym small ∙ roomy_fits r l h in let w : ◌≡◌ {A = ℕ} 0 1 = cc in omega arith);
            no_room = λ h. (a ∙ ap (λ (q : Outcome header.Header). door.returned (each header_info q)) k, b ∙ ap (λ (q : Outcome header.Header). afterwards header.holding_header q l) k);
          }
      go false fits k =
          record {
            roomy = λ h.
                record {
                  header = header_info (header_for r);
                  is = a ∙ ap (λ (q : Outcome header.Header). door.returned (each header_info q)) k;
                  starts = sym (file_whole r);
                  order_is = refl;
                  entries_are = table_whole r;
                  names_are = names_whole r;
                  rank_is = refl;
                  stored = b ∙ ap (λ (q : Outcome header.Header). afterwards header.holding_header q l) k;
                };
            no_room = λ h. absurd (h (fits_roomy r l fits));
          }

module _ (r : Record) (sound : Sound r) (room : List ℕ) (e : writing r room ≡ gives (file_of r)) where
  pub sound_read : (rest : List ℕ) (l : Lent) → held_into false (file_of r ++ rest) l ≡ unless (too_small (rooms_of l) (needs r)) 23 (gives (header_for r))
  sound_read rest l = record_written_read reading reading_keeps r sound room (file_of r) e rest (rooms_of l)

  sound_back : ReadBack (file_of r) (table r.dtype) (names r.dtype) r.shape r.order
  sound_back rest l l' x h =
      comes_back in_rattle r l l' (header_answer x) (held_into false (file_of r ++ rest) l) (sound_read rest l) (h.answered reading reading_keeps) (h.after reading reading_keeps)

  npy_sound_back : NpyReadBack (file_of r) (table r.dtype) (names r.dtype) r.shape r.order
  npy_sound_back rest l l' said said' c h =
      comes_back (in_c header_values said) r l l' (c, said') (held_into false (file_of r ++ rest) l) (sound_read rest l) (c_returned (h.answered reading reading_keeps))
      (h.after reading reading_keeps)

-- ---- in the caller's own words
pub record Wrote (t ns s : List ℕ) (o : Order) (room : List ℕ) (n : ℕ) (room' : List ℕ) : Type 0 where
  pub says : Record
  pub valid : Valid t ns s o says
  pub sound : Sound says
  pub writes : writing says room ≡ gives (file_of says)
  pub long : length (file_of says) ≡ n
  pub bytes : take n room' ≡ file_of says

wrote : (t ns s : List ℕ) (o : Order) (room bytes : List ℕ) (n : ℕ) (room' : List ℕ) → Small t → Small s → header_written t ns s o room ≡ gives bytes → length bytes ≡ n
    → room' ≡ at_front bytes room → Wrote t ns s o room n room'
unfolding header_written
wrote t ns s o room bytes n room' small_t small_s e len after =
    let (r, accepted, of_record) = then_back (checked_record t ns s o) (λ r. writing r room) bytes e in
    let valid = checked_valid t ns s o r accepted in
    let same : bytes ≡ file_of r = holds_of (λ b. b ≡ file_of r) of_record (writing_whole r room) in
    record {
      says = r;
      valid = valid;
      sound = valid_sound t ns s o r valid small_t small_s;
      writes = of_record ∙ ap gives same;
      long = ap length (sym same) ∙ len;
      bytes = ap (take n) after ∙ front n bytes room (sym len) ∙ same;
    }

module _ (t ns s : List ℕ) (o : Order) (room : List ℕ) (n : ℕ) (room' : List ℕ) (w : Wrote t ns s o room n room') where
  taken_length : length (take n room') ≡ n
  taken_length = ap length w.bytes ∙ w.long

  own_back : ReadBack (take n room') t ns s o
  own_back = rw (w.valid.table_is, w.valid.names_are, w.valid.shape_is, w.valid.order_is, w.bytes) (sound_back w.says w.sound room w.writes)

  npy_own_back : NpyReadBack (take n room') t ns s o
  npy_own_back = rw (w.valid.table_is, w.valid.names_are, w.valid.shape_is, w.valid.order_is, w.bytes) (npy_sound_back w.says w.sound room w.writes)

-- ---- what a call of the writer wrote
pub header_wrote : (t ns s : List ℕ) (o : Order) (out out' : List ℕ) (n : ℕ) → WriteHeader t ns s o out (Ok (record { 0 = n })) out' → Wrote t ns s o out n out'
header_wrote t ns s o out out' n h =
    let (bytes, e, len) = each_back length (header_written t ns s o out) n (sym h.writes.answered) in
    wrote t ns s o out bytes n out' h.small_table h.small_shape e len (h.writes.room_after ∙ ap (λ (y : Outcome (List ℕ)). afterwards at_front y out) e)

pub npy_header_wrote : (t ns s : List ℕ) (order : ℕ) (out out' count : List ℕ) (n : ℕ) → NpyWriteHeader t ns s order out count 0 out' (n ∷ [])
    → (o : Order) × (order ≡ order_number o) × Wrote t ns s o out n out'
npy_header_wrote t ns s order out out' count n h =
    let put = then (order_for order) (λ o. header_written t ns s o out) in
    let numbered = then_numbered (order_for order) (λ o. header_written t ns s o out) (for_numbered order) (λ o. header_written_numbered t ns s o out) in
    let (m, e, v) = found_value (each length put) (each_numbered length put numbered) h.writes.answered in
    let (bytes, is, len) = each_back length put m e in
    let (o, named, written_is) = then_back (order_for order) (λ o. header_written t ns s o out) bytes is in
    let same : m ≡ n = cc in
    let w =
    wrote t ns s o out bytes n out' h.small_table h.small_shape written_is (len ∙ same) (h.writes.room_after ∙ ap (λ (y : Outcome (List ℕ)). afterwards at_front y out) is) in
    (o, order_named order o named, w)

-- WHAT WAS WRITTEN IS READ BACK
pub written_read : WrittenRead
written_read t ns s o out out' n h = let w = header_wrote t ns s o out out' n h in (taken_length t ns s o out n out' w, own_back t ns s o out n out' w)

pub written_read_in_c : WrittenReadInC
written_read_in_c t ns s order out out' count n h =
    let (o, named, w) = npy_header_wrote t ns s order out out' count n h in (o, named, taken_length t ns s o out n out' w, npy_own_back t ns s o out n out' w)

-- ---- what was read goes again
goes_again : {R : Type 0} (door : Door ℕ R) (r : Record) (out : List ℕ) (w : R) (out' : List ℕ) (Again : List ℕ → Type 0)
    → writing r out ≡ unless (ltb most_text (text_length_of r)) 4 (roomed 28 out (file_of r)) → w ≡ door.returned (each length (writing r out))
    → out' ≡ afterwards at_front (writing r out) out → (writing r out ≡ gives (file_of r) → Again (file_of r)) → GoesAgain door r out w out' Again
unfolding roomed
goes_again door r out w out' Again only is after again =
    let returned : (o : Outcome (List ℕ)) → writing r out ≡ o → w ≡ door.returned (each length o) = λ o e. is ∙ ap (λ (y : Outcome (List ℕ)). door.returned (each length y)) e in
    let held : (o : Outcome (List ℕ)) → writing r out ≡ o → out' ≡ afterwards at_front o out = λ o e. after ∙ ap (λ (y : Outcome (List ℕ)). afterwards at_front y out) e in
    let long_is = text_length r in
    record {
      long = λ h.
          let e : writing r out ≡ refused 4 = only ∙ rw (lt-ltb _ _ (subst (λ (n : ℕ). most_text < n) long_is h)) refl in
          (returned (refused 4) e, held (refused 4) e);
      no_room = λ h k.
          let e : writing r out ≡ refused 28 = only ∙ rw (le-ltb _ _ (subst (λ (n : ℕ). n ≤ most_text) long_is h), roomed_short 28 out (file_of r) k) refl in
          (returned (refused 28) e, held (refused 28) e);
      written = λ h k.
          let e : writing r out ≡ gives (file_of r) = only ∙ rw (le-ltb _ _ (subst (λ (n : ℕ). n ≤ most_text) long_is h), roomed_whole 28 out (file_of r) k) refl in
          (returned (gives (file_of r)) e, held (gives (file_of r)) e, again e);
    }

-- the writer's outcome for a record that was read
writes_so : (file : List ℕ) (l l' : Lent) (i : HeaderInfo) (w : WasRead file l l' i) (r : Record) → w.header_found.says ≡ r
    → Sound r × ((out : List ℕ) → writing r out ≡ unless (ltb most_text (text_length_of r)) 4 (roomed 28 out (file_of r)))
writes_so file l l' i w r e =
    let given_is = by_whole file l l' i w in
    subst (λ (r : Record). Sound r × ((out : List ℕ) → writing r out ≡ unless (ltb most_text (text_length_of r)) 4 (roomed 28 out (file_of r)))) e (
      (read_readable reading reading_keeps file (rooms_of l) w.header_found given_is).writable.sound,
      λ out. (record_read_written reading reading_keeps file (rooms_of l) w.header_found given_is out).refused_only,
    )

-- WHAT WAS READ CAN BE WRITTEN, 4 AND 28 ASIDE, AND COMES BACK
pub read_written : ReadWritten
unfolding header_written
read_written file l l' x h c e held out out' v k =
    let w = read_was file l l' x (header_info h) c e in
    let own = valid_own file l l' (header_info h) w h refl held in
    let (sound, only) = writes_so file l l' (header_info h) w h.says (says_is file l l' (header_info h) w h refl held) in
    let is = ap (λ (c : Outcome Record). then c (λ r. writing r out)) (valid_checked _ _ _ _ _ own) in
    goes_again in_rattle h.says out (bytes_answer v) out' _ (only out) (k.writes.answered ∙ ap (each length) is)
    (k.writes.room_after ∙ ap (λ (o : Outcome (List ℕ)). afterwards at_front o out) is) (λ e. sound_back h.says sound out e)

pub read_written_in_c : ReadWrittenInC
unfolding header_written
read_written_in_c file l l' said said' h c e held out out' count count' v k =
    let (i, values, w) = npy_read_was file l l' said said' c in
    let info_is = (values_one i (header_info h) (sym values ∙ e)).0 in
    let own = valid_own file l l' i w h info_is held in
    let (sound, only) = writes_so file l l' i w h.says (says_is file l l' i w h info_is held) in
    let n = info_of h.says in
    let is =
    ap (λ (g : Outcome Order). then g (λ o. header_written (table_stored n l') (names_stored n l') (shape_stored n l') o out)) (order_back n.order)
    ∙ ap (λ (c : Outcome Record). then c (λ r. writing r out)) (valid_checked _ _ _ _ _ own) in
    goes_again (in_c one_number count) h.says out (v, count') out' _ (only out) (c_returned (returns_same (ap (each length) is) k.writes.answered))
    (k.writes.room_after ∙ ap (λ (o : Outcome (List ℕ)). afterwards at_front o out) is) (λ e. npy_sound_back h.says sound out e)
