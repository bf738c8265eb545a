-- What is accepted is exactly what document 01 defines (specs/Exact.antt). The predicates are equations with sequences of checks; a sequence that gives a value has passed
-- each check, and one whose checks all pass gives it. For each text one outcome keeps the grammar's promise, so the value given by the rules is the one
-- that is read.
use Prim.Native.Nat.{ℕ, ◌+◌, ◌≤◌}
use mathlib.Core.Path.{◌≡◌, refl, sym, ap, subst, ◌∙◌}
use mathlib.Core.Bool.{Bool, true, not}
use mathlib.Core.List.{List, [], ◌∷◌}
use lib.Dec.{ltb}
use lib.ListN.{length, get_or}
use borrow.Author.Tests.{le-ltb, ltb-false, not-false}
use Rattle.counts.specs.Outcome.{Outcome, gives, then, each, afterwards, unless}
use Rattle.counts.specs.Lists.{at_front}
use Rattle.counts.proofs.Apart.{refused_gives, gives_apart}
use Rattle.counts.proofs.Holds.{unless_back, then_back, each_back}
use Rattle.literal_grammar.specs.Value.{Value, most_open}
use Rattle.literal_grammar.specs.Promise.{Got, got, fault, deep, PromiseAt, GivesIn}
use Rattle.literal_grammar.proofs.Kept.{one_outcome_at}
use Rattle.utf8.specs.Decode.{utf8}
use Rattle.utf8.proofs.Outcomes.{accepted_exactly}
use Rattle.type_str.specs.declared.TypeStr.{TypeStr}
use Rattle.type_str.specs.Text.{is_type}
use Rattle.dtype.specs.declared.Order.{Order}
use Rattle.dtype.specs.Entries.{has_object}
use Rattle.dtype.specs.Limits.{limited}
use Rattle.dtype.specs.Shape.{in_range}
use Rattle.dtype.specs.Record.{Record}
use Rattle.dtype.specs.Places.{plain_at, data_bytes, place}
use Rattle.record.specs.Prefix.{most_text, Prefix, data_start_of, prefix, missing, text_held, text_or, Version}
use Rattle.record.specs.FromValue.{record_of_value}
use Rattle.record.specs.Rooms.{needs, too_small, Lent, rooms_of, holding}
use Rattle.record.specs.Header as header
use Rattle.record.specs.File.{text_length_of, file_of}
use Rattle.record.specs.Writing.{too_deep, writing}
use Rattle.record.proofs.Files.{record_in_by}
use Rattle.check_record.specs.Checked.{checked_record}
use Rattle.check_record.proofs.Accepts.{checked_valid, valid_checked}
use Rattle.judge.specs.Judged.{reading}
use Rattle.judge.proofs.Top.{reading_keeps}
use Rattle.header.specs.Reads.{HeaderInfo, header_info, held_into}
use Rattle.write.specs.Writes.{header_written}
use Rattle.place_area.specs.declared.Run.{Run}
use Rattle.place.specs.Place as place
use Rattle.place.proofs.Placing.{place_given}
use Rattle.counts.specs.Owes.{roomed, Owes}
use Rattle.counts.proofs.Owes.{roomed_whole}
use Rattle.string_value.specs.Elements.{bytes_in, points_in}
use Rattle.string_value.specs.Runs.{bytes_out, points_out}
use Rattle.string_value.specs.Rooms.{write_bytes, write_points}
use Rattle.element.specs.Bytes.{run_bytes}
use Rattle.element.specs.Element.{element_bytes, element_points}
use Rattle.element.proofs.Typed.{bytes_after, points_after}
use Rattle.npy_codes.specs.Codes.{one_number, order_number, order_for, type_for, type_values, header_values, run_values}
use Rattle.npy.specs.Calls.{Puts}
use Rattle.claims.specs.Doors.{Door, in_rattle, in_c}
use Rattle.claims.specs.Exact.{InText, InFile, Fits, ReadsExactly, Writable, WritesExactly, PlaceIs, Element, TakesExactly, ByItself, ByNumber, ByOrder, ByType, Exact, ExactInC}
use Rattle.claims.proofs.Found.{order_named, order_back, type_for_values, values_for_type}
use Rattle.claims.proofs.Printable.{printable_shallow, printable_short, shallow_printable}
use Rattle.claims.proofs.Doors.{Fails, rattle_fails, c_fails, c_returned, exactly_by}
use Rattle.record.proofs.Numbers.{Numbered, each_numbered, then_numbered}
use Rattle.claims.proofs.Numbers.{for_numbered, held_header_numbered, header_written_numbered, place_numbered, element_bytes_numbered, type_for_numbered, write_bytes_numbered, write_points_numbered, element_points_numbered}
use Rattle.claims.proofs.Roomy.{roomy_fits, fits_roomy}

-- ---- reading
value_given : (text : List ℕ) (g : Got ℕ Value) → PromiseAt most_open text g → (v : Value) → header.value_read g ≡ gives v → GivesIn most_open text v
value_given text (got u q) k v e = let same : u ≡ v = cc in subst (GivesIn most_open text) same k.1
value_given text (fault q) k v e = refused_gives e
value_given text (deep q) k v e = refused_gives e

pub in_text_read : (text : List ℕ) (r : Record) → InText text r → header.record_in reading text ≡ gives r
in_text_read text r s =
    let well = (accepted_exactly text).1 s.well_formed in
    let is_read : reading text ≡ got s.value (length text) =
    one_outcome_at most_open text (reading text) (got s.value (length text)) (reading_keeps text) (refl, s.literal) in
    record_in_by reading text s.value (length text) r well is_read s.is_record

pub read_in_text : (text : List ℕ) (r : Record) → header.record_in reading text ≡ gives r → InText text r
unfolding header.record_in
read_in_text text r e =
    let (u, well, of_value) = then_back (utf8 text) _ r e in
    let (v, read, is_record) = then_back (header.value_read (reading text)) record_of_value r of_value in
    record { well_formed = (accepted_exactly text).0 well; value = v; literal = value_given text (reading text) (reading_keeps text) v read; is_record = is_record }

-- the text of a file is the same where the file may be longer, if it is all there
held_whole : (longer : Bool) (p : Prefix) (file text : List ℕ) → text_or 3 p file ≡ gives text → text_held longer p file ≡ gives text
unfolding text_held
held_whole longer p file text e =
    let (fits, is) = unless_back (ltb (length file) (data_start_of p)) 3 _ text e in
    rw (text_held, fits) is

whole_held : (longer : Bool) (p : Prefix) (file text : List ℕ) → text_held longer p file ≡ gives text → text_or 3 p file ≡ gives text
unfolding text_held
whole_held longer p file text e =
    let (fits, is) = unless_back (ltb (length file) (data_start_of p)) (missing longer) _ text e in
    rw (text_or, fits) is

-- a header by its parts
abbrev made : Version → Record → ℕ → header.Header
made v r n = record { version = v; says = r; data_start = n }

header_made : (h : header.Header) (v : Version) (n : ℕ) → h.version ≡ v → h.data_start ≡ n → made v h.says n ≡ h
header_made h v n e f = rw (sym e, sym f) refl

module _ (longer : Bool) (file : List ℕ) (l : Lent) where
  pub in_file_read : (h : header.Header) → InFile file h → Fits l h.says → held_into longer file l ≡ gives h
  unfolding header.stored
  in_file_read h s fits =
      let p = s.front in
      let e = held_whole longer p file s.text s.whole in
      let r = in_text_read s.text h.says s.says in
      let m = header_made h p.version (data_start_of p) s.same_version s.data_starts in
      let small = roomy_fits h.says l fits in
      simp (s.begins, e, r, small, m)

  pub read_in_file : (h : header.Header) → held_into longer file l ≡ gives h → InFile file h × Fits l h.says
  unfolding header.stored
  read_in_file h e =
      let (p, begins, of_text) = then_back (prefix file) _ h e in
      let (text, whole, of_record) = then_back (text_held longer p file) _ h of_text in
      let (r, is, stored) = then_back (header.record_in reading text) _ h of_record in
      let (fits, made_by) = unless_back (too_small (rooms_of l) (needs r)) 23 _ h stored in
      let same : made p.version r (data_start_of p) ≡ h = gives_apart made_by in
      let says : r ≡ h.says = ap (λ (x : header.Header). x.says) same in (
        record {
          front = p;
          begins = begins;
          text = text;
          whole = whole_held longer p file text whole;
          says = subst (InText text) says (read_in_text text r is);
          same_version = sym (ap (λ (x : header.Header). x.version) same);
          data_starts = sym (ap (λ (x : header.Header). x.data_start) same);
        },
        subst (Fits l) says (fits_roomy r l fits),
      )

  reads_exactly : {R : Type 0} (door : Door HeaderInfo R) (y : R) (l' : Lent) → y ≡ door.returned (each header_info (held_into longer file l))
      → l' ≡ afterwards header.holding_header (held_into longer file l) l → Fails door (each header_info (held_into longer file l)) → ReadsExactly door file l y l'
  reads_exactly door y l' is after fails =
      exactly_by door (λ h. InFile file h × Fits l h.says) header_info (λ h. holding h.says) l y l' (each header_info (held_into longer file l)) is fails
      (λ h d. let e = in_file_read h d.0 d.1 in (ap (each header_info) e, after ∙ ap (λ (o : Outcome header.Header). afterwards header.holding_header o l) e))
      (λ i e. let (h, is_header, _) = each_back header_info (held_into longer file l) i e in (h, read_in_file h is_header))

-- ---- writing
module _ (t ns s : List ℕ) (o : Order) (room : List ℕ) where
  writable_writes : (r : Record) → Writable t ns s o room r → header_written t ns s o room ≡ gives (file_of r)
  unfolding header_written writing
  writable_writes r w =
      let p = w.printable in
      rw (header_written, valid_checked t ns s o r w.valid, writing, w.valid.limits, printable_shallow r p, le-ltb _ _ (printable_short r p)) (roomed_whole 28 room (file_of r) w.fits)

  writes_writable : (bytes : List ℕ) → header_written t ns s o room ≡ gives bytes → (r : Record) × Writable t ns s o room r
  unfolding header_written writing roomed
  writes_writable bytes e =
      let (r, accepted, of_record) = then_back (checked_record t ns s o) _ bytes e in
      let (_, _, of_text) = then_back (limited r) _ bytes of_record in
      let (shallow, short) = unless_back (too_deep r) 7 _ bytes of_text in
      let (few, room_asked) = unless_back (ltb most_text (text_length_of r)) 4 _ bytes short in
      let (fits, _) = unless_back (ltb (length room) (length (file_of r))) 28 _ bytes room_asked in (
        r,
        record {
          valid = checked_valid t ns s o r accepted;
          printable = shallow_printable r shallow (ltb-false _ _ few);
          fits = ltb-false _ _ fits;
        },
      )

-- a call that puts the header of what is due in the room
writes_exactly : {R : Type 0} (door : Door ℕ R) (Due : Record → Type 0) (room : List ℕ) (y : R) (room' : List ℕ) (put : Outcome (List ℕ))
    → y ≡ door.returned (each length put) → room' ≡ afterwards at_front put room → Fails door (each length put)
    → ((r : Record) → Due r → put ≡ gives (file_of r)) → ((bytes : List ℕ) → put ≡ gives bytes → (r : Record) × Due r) → WritesExactly door Due room y room'
writes_exactly door Due room y room' put is held fails due back =
    exactly_by door Due (λ r. length (file_of r)) (λ r. at_front (file_of r)) room y room' (each length put) is fails
    (λ r d. let e = due r d in (ap (each length) e, held ∙ ap (λ (o : Outcome (List ℕ)). afterwards at_front o room) e))
    (λ n e. let (bytes, given_is, _) = each_back length put n e in back bytes given_is)

-- ---- places
module _ (file start : ℕ) (t ns s : List ℕ) (o : Order) (x p : List ℕ) where
  pub named_place : (a : Record × TypeStr) → PlaceIs file start t ns s o x p a.0 a.1 → place.place_of file start t ns s o x p ≡ gives (place.run_from (place start a.0 x p) a.1)
  unfolding place.placed
  named_place a n =
      sym (place_given file start t ns s o x p a.0 (valid_checked t ns s o a.0 n.valid))
      ∙ rw (place.placed, n.no_object, le-ltb _ _ n.long, n.index_in_range, n.leads)

  pub place_named : (u : Run) → place.place_of file start t ns s o x p ≡ gives u
      → (a : Record × TypeStr) × PlaceIs file start t ns s o x p a.0 a.1 × (place.run_from (place start a.0 x p) a.1 ≡ u)
  unfolding place.place_of place.placed
  place_named u e =
      let (r, accepted, of_record) = then_back (checked_record t ns s o) _ u e in
      let (no_object, of_file) = unless_back (has_object r.dtype) 24 _ u of_record in
      let (long, in_file) = unless_back (ltb file (start + data_bytes r)) 25 _ u of_file in
      let (ranged, by_path) = unless_back (not (in_range r.shape x)) 26 _ u in_file in
      let (k, leads, is) = each_back (λ k. place.run_from (place start r x p) k) (plain_at r.dtype p) u by_path in (
        (r, k),
        record { valid = checked_valid t ns s o r accepted; no_object = no_object; long = ltb-false _ _ long; index_in_range = not-false (in_range r.shape x) ranged; leads = leads },
        is,
      )

  place_due : (u : Run) → place.place_of file start t ns s o x p ≡ gives u → (a : Record × TypeStr) × PlaceIs file start t ns s o x p a.0 a.1
  place_due u e = let (a, n, _) = place_named u e in (a, n)

-- ---- elements
module _ (within : TypeStr → List ℕ → Outcome (List ℕ)) (file : List ℕ) (start : ℕ) (t ns s : List ℕ) (o : Order) (x p room : List ℕ) where
  abbrev at : Outcome Run
  at = place.place_of (length file) start t ns s o x p

  abbrev put : Outcome (List ℕ)
  put = then at (λ u. then (within u.kind (run_bytes file u)) (roomed 23 room))

  element_put : (content : List ℕ) → Element within file start t ns s o x p room content → put ≡ gives content
  unfolding roomed
  element_put content e =
      rw (named_place (length file) start t ns s o x p (e.says, e.kind) e.named, e.is, roomed, le-ltb _ _ e.fits)

  put_element : (content : List ℕ) → put ≡ gives content → Element within file start t ns s o x p room content
  unfolding roomed
  put_element content e =
      let (u, placed_at_lem, of_run) = then_back at _ content e in
      let (a, n, is_run) = place_named (length file) start t ns s o x p u placed_at_lem in
      let (c, is_content, kept) = then_back (within u.kind (run_bytes file u)) _ content of_run in
      let (fits, is) = unless_back (ltb (length room) (length c)) 23 (gives c) content kept in
      let same : c ≡ content = gives_apart is in
      record {
        says = a.0;
        kind = a.1;
        named = n;
        is = ap (λ (v : Run). within v.kind (run_bytes file v)) is_run ∙ is_content ∙ ap gives same;
        fits = subst (λ (y : List ℕ). length y ≤ length room) same (ltb-false _ _ fits);
      }

takes_exactly : {R : Type 0} (door : Door ℕ R) (Due : List ℕ → Type 0) (room : List ℕ) (y : R) (room' : List ℕ) (whole : Outcome (List ℕ))
    → y ≡ door.returned (each length whole) → room' ≡ afterwards at_front whole room → Fails door (each length whole)
    → ((c : List ℕ) → Due c → whole ≡ gives c) → ((c : List ℕ) → whole ≡ gives c → Due c) → TakesExactly door Due room y room'
takes_exactly door Due room y room' whole is held fails due back =
    exactly_by door Due length at_front room y room' (each length whole) is fails
    (λ c d. let e = due c d in (ap (each length) e, held ∙ ap (λ (o : Outcome (List ℕ)). afterwards at_front o room) e))
    (λ n e. let (c, given_is, _) = each_back length whole n e in (c, back c given_is))

-- ---- an element by itself
module _ (k : TypeStr) (given : Outcome (List ℕ)) (n : ℕ) (room : List ℕ) where
  by_itself_put : (content : List ℕ) → ByItself k given room content → unless (not (is_type k)) 27 (then given (roomed n room)) ≡ gives content
  unfolding roomed
  by_itself_put content a = rw (a.typed, a.is, roomed, le-ltb _ _ a.fits)

  put_by_itself : (content : List ℕ) → unless (not (is_type k)) 27 (then given (roomed n room)) ≡ gives content → ByItself k given room content
  unfolding roomed
  put_by_itself content e =
      let (typed, of_type) = unless_back (not (is_type k)) 27 _ content e in
      let (c, is_content, kept) = then_back given _ content of_type in
      let (fits, is) = unless_back (ltb (length room) (length c)) n (gives c) content kept in
      let same : c ≡ content = gives_apart is in
      record {
        typed = not-false (is_type k) typed;
        is = is_content ∙ ap gives same;
        fits = subst (λ (y : List ℕ). length y ≤ length room) same (ltb-false _ _ fits);
      }

write_bytes_put : (k : TypeStr) (value room : List ℕ) → write_bytes k value room ≡ unless (not (is_type k)) 27 (then (bytes_out k value) (roomed 28 room))
unfolding write_bytes
write_bytes_put k value room = refl

write_points_put : (k : TypeStr) (value room : List ℕ) → write_points k value room ≡ unless (not (is_type k)) 27 (then (points_out k value) (roomed 28 room))
unfolding write_points
write_points_put k value room = refl

-- ---- from C, where the numbers of an order or a type come first
-- the numbers that `named` takes an N from are the values of exactly that N, where something is due of it
pub record Names {N A : Type 0} (named : Outcome N) (numbers : List ℕ) (values : N → List ℕ) (Due : N → A → Type 0) : Type 0 where
  pub is : (n : N) (a : A) → numbers ≡ values n → Due n a → named ≡ gives n
  pub back : (n : N) → named ≡ gives n → numbers ≡ values n

pub order_names : {A : Type 0} (order : ℕ) (Due : Order → A → Type 0) → Names (order_for order) (order ∷ []) (λ o. order_number o ∷ []) Due
order_names order Due =
    record {
      is = λ o a e d. ap (λ (l : List ℕ). order_for (get_or l 0 0)) e ∙ order_back o;
      back = λ o e. ap (λ (n : ℕ). n ∷ []) (order_named order o e);
    }

pub type_names : {A : Type 0} (order letter size units : ℕ) (Due : TypeStr → A → Type 0) → ((k : TypeStr) (a : A) → Due k a → is_type k ≡ true)
    → Names (type_for order letter size units) (order ∷ letter ∷ size ∷ units ∷ []) type_values Due
type_names order letter size units Due typed =
    record {
      is = λ k a e d.
          type_for_values order letter size units k (ap (λ (l : List ℕ). get_or l 0 0) e) (ap (λ (l : List ℕ). get_or l 1 0) e) (ap (λ (l : List ℕ). get_or l 2 0) e)
          (ap (λ (l : List ℕ). get_or l 3 0) e) (typed k a d);
      back = λ k e. values_for_type order letter size units k e;
    }

module _ {N A B : Type 0} (named : Outcome N) (numbers : List ℕ) (values : N → List ℕ) (Due : N → A → Type 0) (names : Names named numbers values Due) (next : N → Outcome B) where
  pub by_number : (value : A → B) → ((n : N) (a : A) → Due n a → next n ≡ gives (value a)) → (a : A) → ByNumber numbers values Due a → then named next ≡ gives (value a)
  by_number value due a (n, is, d) = ap (λ (g : Outcome N). then g next) (names.is n a is d) ∙ due n a d

  pub number_by_lem : ((n : N) (b : B) → next n ≡ gives b → (a : A) × Due n a) → (b : B) → then named next ≡ gives b → (a : A) × ByNumber numbers values Due a
  number_by_lem back b e =
      let (n, named_is, given_is) = then_back named next b e in
      let (a, d) = back n b given_is in
      (a, (n, names.back n named_is, d))

-- ---- the functions of elements put what is due, and only that
pub record PutsDue (put : Outcome (List ℕ)) (Due : List ℕ → Type 0) : Type 0 where
  pub due : (c : List ℕ) → Due c → put ≡ gives c
  pub back : (c : List ℕ) → put ≡ gives c → Due c

module _ (file : List ℕ) (start : ℕ) (t ns s : List ℕ) (x p out : List ℕ) (o : Order) where
  element_bytes_due : PutsDue (element_bytes file start t ns s o x p out) (Element bytes_in file start t ns s o x p out)
  element_bytes_due =
      let is = bytes_after file start t ns s o x p out in
      record { due = λ c d. is ∙ element_put bytes_in file start t ns s o x p out c d; back = λ c e. put_element bytes_in file start t ns s o x p out c (sym is ∙ e) }

  element_points_due : PutsDue (element_points file start t ns s o x p out) (Element points_in file start t ns s o x p out)
  element_points_due =
      let is = points_after file start t ns s o x p out in
      record { due = λ c d. is ∙ element_put points_in file start t ns s o x p out c d; back = λ c e. put_element points_in file start t ns s o x p out c (sym is ∙ e) }

pub by_itself_due : (k : TypeStr) (given : Outcome (List ℕ)) (n : ℕ) (room : List ℕ) (put : Outcome (List ℕ)) → put ≡ unless (not (is_type k)) 27 (then given (roomed n room))
    → PutsDue put (ByItself k given room)
by_itself_due k given n room put is = record { due = λ c d. is ∙ by_itself_put k given n room c d; back = λ c e. put_by_itself k given n room c (sym is ∙ e) }

module _ (out : List ℕ) (k : TypeStr) where
  write_bytes_due : (value : List ℕ) → PutsDue (write_bytes k value out) (ByItself k (bytes_out k value) out)
  write_bytes_due value = by_itself_due k (bytes_out k value) 28 out (write_bytes k value out) (write_bytes_put k value out)

  write_points_due : (value : List ℕ) → PutsDue (write_points k value out) (ByItself k (points_out k value) out)
  write_points_due value = by_itself_due k (points_out k value) 28 out (write_points k value out) (write_points_put k value out)

pub takes_in_rattle : {put : Outcome (List ℕ)} {Due : List ℕ → Type 0} → PutsDue put Due → {room room' : List ℕ} {y : Outcome ℕ} → Owes put room y room'
    → TakesExactly in_rattle Due room y room'
takes_in_rattle {put = put} {Due = Due} p {room = room} {room' = room'} {y = y} h =
    takes_exactly in_rattle Due room y room' put h.answered h.room_after (rattle_fails _) p.due p.back

pub exact : Exact
exact =
    record {
      read_held = λ longer file l x l' h.
          reads_exactly longer file l in_rattle _ l' (h.answered reading reading_keeps) (h.after reading reading_keeps) (rattle_fails _);
      write_header = λ t ns s o out w out' h.
          writes_exactly in_rattle (Writable t ns s o out) out _ out' (header_written t ns s o out) h.writes.answered h.writes.room_after (rattle_fails _)
          (writable_writes t ns s o out) (writes_writable t ns s o out);
      place = λ file start t ns s o x p y h.
          exactly_by in_rattle _ _ _ tt _ tt (place.place_of file start t ns s o x p) h (rattle_fails _)
          (λ a d. (named_place file start t ns s o x p a d, refl)) (place_due file start t ns s o x p);
      element_bytes = λ file start t ns s o x p out y out' h. takes_in_rattle (element_bytes_due file start t ns s x p out o) h;
      element_points = λ file start t ns s o x p out y out' h. takes_in_rattle (element_points_due file start t ns s x p out o) h;
      write_bytes = λ k value out y out' h. takes_in_rattle (write_bytes_due out k value) h;
      write_points = λ k value out y out' h. takes_in_rattle (write_points_due out k value) h;
    }

-- ---- the same in C
pub takes_in_c : {N : Type 0} (named : Outcome N) (numbers : List ℕ) (values : N → List ℕ) (Due : N → List ℕ → Type 0) → Names named numbers values Due
    → (next : N → Outcome (List ℕ)) (out : List ℕ) → Numbered named → ((n : N) → Numbered (next n)) → ((n : N) → PutsDue (next n) (Due n)) → (count : List ℕ) (r : ℕ) (out' count' : List ℕ)
    → Puts (then named next) out count r out' count' → TakesExactly (in_c one_number count) (ByNumber numbers values Due) out (r, count') out'
takes_in_c named numbers values Due names next out first numbered puts count r out' count' h =
    takes_exactly (in_c one_number count) (ByNumber numbers values Due) out (r, count') out' (then named next) (c_returned h.answered) h.room_after
    (c_fails one_number count _ (each_numbered length _ (then_numbered named next first numbered)))
    (by_number named numbers values Due names next (λ c. c) (λ n. (puts n).due))
    (λ c e. let (n, is, given_is) = then_back named next c e in (n, names.back n is, (puts n).back c given_is))

takes_by_order : (order : ℕ) (Due : Order → List ℕ → Type 0) (next : Order → Outcome (List ℕ)) (out : List ℕ) → ((o : Order) → Numbered (next o)) → ((o : Order) → PutsDue (next o) (Due o))
    → (count : List ℕ) (r : ℕ) (out' count' : List ℕ) → Puts (then (order_for order) next) out count r out' count' → TakesExactly (in_c one_number count) (ByOrder order Due) out (r, count') out'
takes_by_order order Due next out numbered puts = takes_in_c (order_for order) _ _ Due (order_names order Due) next out (for_numbered order) numbered puts

pub takes_by_type : (order letter size units : ℕ) (given : TypeStr → Outcome (List ℕ)) (next : TypeStr → Outcome (List ℕ)) (out : List ℕ) → ((k : TypeStr) → Numbered (next k))
    → ((k : TypeStr) → PutsDue (next k) (ByItself k (given k) out)) → (count : List ℕ) (r : ℕ) (out' count' : List ℕ)
    → Puts (then (type_for order letter size units) next) out count r out' count'
    → TakesExactly (in_c one_number count) (ByType order letter size units (λ k. ByItself k (given k) out)) out (r, count') out'
takes_by_type order letter size units given next out numbered puts =
    takes_in_c (type_for order letter size units) _ _ (λ k. ByItself k (given k) out) (type_names order letter size units _ (λ k c d. d.typed)) next out
    (type_for_numbered order letter size units) numbered puts

pub exact_in_c : ExactInC
exact_in_c =
    record {
      npy_read_held = λ longer file l said r l' said' h.
          reads_exactly longer file l (in_c header_values said) (r, said') l' (c_returned (h.answered reading reading_keeps)) (h.after reading reading_keeps)
          (c_fails header_values said _ (each_numbered header_info _ (held_header_numbered reading longer file l)));
      npy_write_header = λ t ns s order out count r out' count' h.
          let Due : Order → Record → Type 0 = λ o. Writable t ns s o out in
          let next : Order → Outcome (List ℕ) = λ o. header_written t ns s o out in
          writes_exactly (in_c one_number count) (ByOrder order Due) out (r, count') out' (then (order_for order) next) (c_returned h.writes.answered) h.writes.room_after
          (c_fails one_number count _ (each_numbered length _ (then_numbered (order_for order) next (for_numbered order) (λ o. header_written_numbered t ns s o out))))
          (by_number _ _ _ Due (order_names order Due) next file_of (λ o. writable_writes t ns s o out))
          (number_by_lem _ _ _ Due (order_names order Due) next (λ o. writes_writable t ns s o out));
      npy_place = λ file start t ns s order x p run r run' h.
          let Due : Order → Record × TypeStr → Type 0 = λ o a. PlaceIs file start t ns s o x p a.0 a.1 in
          let next : Order → Outcome Run = λ o. place.place_of file start t ns s o x p in
          exactly_by (in_c run_values run) (ByOrder order Due) (λ a. place.run_from (place start a.0 x p) a.1) (λ a m. m) tt (r, run') tt _ (c_returned h)
          (c_fails run_values run _ (then_numbered (order_for order) next (for_numbered order) (λ o. place_numbered file start t ns s o x p)))
          (λ a d. (by_number _ _ _ Due (order_names order Due) next (λ a. place.run_from (place start a.0 x p) a.1) (λ o. named_place file start t ns s o x p) a d, refl))
          (number_by_lem _ _ _ Due (order_names order Due) next (λ o. place_due file start t ns s o x p));
      npy_element_bytes = λ file start t ns s order x p out.
          takes_by_order order _ (λ o. element_bytes file start t ns s o x p out) out (λ o. element_bytes_numbered file start t ns s o x p out) (element_bytes_due file start t ns s x p out);
      npy_element_points = λ file start t ns s order x p out.
          takes_by_order order _ (λ o. element_points file start t ns s o x p out) out (λ o. element_points_numbered file start t ns s o x p out) (element_points_due file start t ns s x p out);
      npy_write_bytes = λ order letter size units value out.
          takes_by_type order letter size units (λ k. bytes_out k value) (λ k. write_bytes k value out) out (λ k. write_bytes_numbered k value out) (λ k. write_bytes_due out k value);
      npy_write_points = λ order letter size units value out.
          takes_by_type order letter size units (λ k. points_out k value) (λ k. write_points k value out) out (λ k. write_points_numbered k value out) (λ k. write_points_due out k value);
    }
