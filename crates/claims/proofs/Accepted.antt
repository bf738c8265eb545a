-- The check accepts exactly the records that some file is read as (specs/Accepted.antt). What was read is accepted. What is accepted is sound, so the bytes of its own
-- header are read as it, into rooms as long as it is.
use Rattle.std.specs.Prelude.{Ok}
use Prim.Native.Nat.{ℕ}
use native.Mathlib.Omega.{arith}
use mathlib.Core.Path.{◌≡◌, refl, sym, ap, ◌∙◌}
use mathlib.Core.Bool.{true, false}
use mathlib.Core.List.{List, [], ◌++◌}
use borrow.Author.Tests.{le-ltb}
use Rattle.counts.specs.Outcome.{Outcome, gives, then, each, unless, afterwards}
use Rattle.counts.proofs.Owes.{roomed_whole}
use Rattle.counts.proofs.Holds.{each_back}
use Rattle.counts.specs.Lists.{AllBytes}
use Rattle.counts.proofs.AllBytes.{bytes_append}
use Rattle.dtype.specs.declared.Order.{Order}
use Rattle.dtype.specs.Limits.{limited}
use Rattle.dtype.specs.Record.{Record, table, names}
use Rattle.record.specs.Prefix as version
use Rattle.record.specs.Rooms.{rooms_of, holding, Lent}
use Rattle.record.specs.Header as header
use Rattle.record.specs.File.{file_of}
use Rattle.record.specs.Writing.{writing}
use Rattle.record.specs.Sound.{Small}
use Rattle.record.proofs.Sound.{Sound}
use Rattle.record.proofs.RoundTrips.{header_length, text_readable, header_for, file_all_bytes, written_read}
use Rattle.check_record.specs.declared.Summary.{Summary}
use Rattle.check_record.specs.Answer.{summary}
use Rattle.check_record.specs.Checked.{checked_record}
use Rattle.check_record.proofs.Accepts.{checked_valid, valid_checked}
use Rattle.header_prefix.specs.declared.Version.{Version}
use Rattle.header_prefix.specs.Answer.{version_is}
use Rattle.judge.specs.Judged.{reading}
use Rattle.judge.proofs.Top.{reading_keeps}
use Rattle.header.specs.declared.Header.{Header}
use Rattle.header.specs.declared.RecordInfo.{RecordInfo}
use Rattle.header.specs.Reads.{lent, info_of, HeaderInfo, header_info}
use Rattle.npy_codes.specs.Codes.{summary_values}
use Rattle.npy_codes.proofs.Then.{returns_same}
use Rattle.claims.specs.Doors.{Door, in_rattle, in_c}
use Rattle.claims.specs.Accepted.{SomeFile, AcceptedAs, Accepts, AcceptsExactly}
use Rattle.read_back.proofs.Accepted.{valid_sound, sound_checked}
use Rattle.read_back.specs.Rooms.{Holds}
use Rattle.read_back.proofs.Rooms.{fronts_by, checked_fronts}
use Rattle.claims.proofs.Roomy.{roomy_fits}
use Rattle.claims.proofs.Doors.{Fails, rattle_fails, c_fails, c_returned, succeeded}
use Rattle.claims.proofs.Found.{found_value, order_back, read_was, in_rooms_checked}
use Rattle.claims.specs.Exact.{InText, Printable}
use Rattle.claims.proofs.Printable.{printable_shallow, printable_short}
use Rattle.claims.proofs.Exact.{in_text_read}
use Rattle.claims.proofs.Further.{fitted_in_text}
use Rattle.record.proofs.Numbers.{each_numbered}
use Rattle.claims.proofs.Numbers.{record_checked_numbered, text_numbered}
use Rattle.claims.proofs.Readings.{read_tied}

-- ---- what was read is accepted
accepted_moved : {t t' ns ns' s s' : List ℕ} {o o' : Order} {r : Record} → t' ≡ t → ns' ≡ ns → s' ≡ s → o' ≡ o → checked_record t' ns' s' o' ≡ gives r
    → checked_record t ns s o ≡ gives r
accepted_moved et en es eo e = cc

all_read : (t ns s : List ℕ) (o : Order) → SomeFile t ns s o → (r : Record) × (checked_record t ns s o ≡ gives r)
all_read t ns s o f =
    let w = read_was f.file f.before f.after f.result f.header f.reads f.is in
    let e = in_rooms_checked f.file f.before f.after f.header w in
    let p = f.holds in
    (w.header_found.says, accepted_moved p.table_is p.names_are p.shape_is p.order_is e)

-- ---- what is accepted is read from its own header's bytes
writing_own : (r : Record) → limited r ≡ gives r → Printable r → writing r (file_of r) ≡ gives (file_of r)
unfolding writing
writing_own r l p = rw (writing, l, printable_shallow r p, le-ltb _ _ (printable_short r p)) (roomed_whole 28 (file_of r) (file_of r) (omega arith))

declared : version.Version → Version
declared version.one_zero = Version.OneZero
declared version.two_zero = Version.TwoZero
declared version.three_zero = Version.ThreeZero

declared_is : (v : version.Version) → version_is (declared v) ≡ v
unfolding declared
declared_is version.one_zero = refl
declared_is version.two_zero = refl
declared_is version.three_zero = refl

abbrev answered : Record → Header
answered r = record { version = declared (header_for r).version; info = info_of r; start = record { 0 = header_length r } }

returned_eq : {v w : version.Version} (r : Record) → v ≡ w
    → ◌≡◌ {A = HeaderInfo} (record { version = v; info = info_of r; data_start = header_length r }) (record { version = w; info = info_of r; data_start = header_length r })
returned_eq r e = cc

own_file : (r : Record) → Sound r → limited r ≡ gives r → Printable r
    → (f : SomeFile (table r.dtype) (names r.dtype) r.shape r.order) × AllBytes f.file × (f.before ≡ lent (table r.dtype) (names r.dtype) r.shape)
own_file r sound limits p =
    let l = lent (table r.dtype) (names r.dtype) r.shape in
    let fits = roomy_fits r l (record { table_fits = omega arith; names_fit = omega arith; shape_fits = omega arith }) in
    let given : header.held_by reading false (file_of r ++ []) l ≡ gives (header_for r) =
    written_read reading reading_keeps r sound (file_of r) (file_of r) (writing_own r limits p) [] (rooms_of l) ∙ ap (λ b. unless b 23 (gives (header_for r))) fits in (
      record {
        file = file_of r ++ [];
        before = l;
        after = holding r l;
        result = Ok (answered r);
        reads =
            read_tied (file_of r ++ []) l (Ok (answered r)) (holding r l)
            (record {
              answered = ap gives (returned_eq r (declared_is (header_for r).version)) ∙ sym (ap (each header_info) given);
              after = sym (ap (λ (o : Outcome header.Header). afterwards header.holding_header o l) given);
            });
        header = header_info (header_for r);
        is = ap gives (returned_eq r (declared_is (header_for r).version));
        holds = fronts_by r l (holding r l) (info_of r) refl refl;
      },
      bytes_append (file_of r) [] (file_all_bytes r sound) tt,
      refl,
    )

abbrev FromFile : (t ns s : List ℕ) (o : Order) → Type 0
FromFile t ns s o = (f : SomeFile t ns s o) × AllBytes f.file × (f.before ≡ lent t ns s)

file_moved : {t t' ns ns' s s' : List ℕ} {o o' : Order} → t ≡ t' → ns ≡ ns' → s ≡ s' → o ≡ o' → FromFile t' ns' s' o' → FromFile t ns s o
file_moved et en es eo f = rw (et, en, es, eo) f

only_read : (t ns s : List ℕ) (o : Order) → Small t → Small s → (r : Record) → checked_record t ns s o ≡ gives r → AcceptedAs t ns s o r
only_read t ns s o small_t small_s r e =
    let v = checked_valid t ns s o r e in
    record {
      valid = v;
      from_file = λ p.
          file_moved v.table_is v.names_are v.shape_is v.order_is (own_file r (valid_sound t ns s o r v small_t small_s) v.limits p);
    }

-- ---- for either door
given_success : {B R : Type 0} (door : Door B R) (o : Outcome B) (y : R) → y ≡ door.returned o → (b : B) → o ≡ gives b → ((b : B) → door.success (door.returned (gives b)) ≡ true)
    → door.success y ≡ true
given_success door o y is b e always = ap door.success (is ∙ ap door.returned e) ∙ always b

accepts_by : {R : Type 0} (door : Door Summary R) (t ns s : List ℕ) (o : Order) (y : R) → Small t → Small s → y ≡ door.returned (each summary (checked_record t ns s o))
    → Fails door (each summary (checked_record t ns s o)) → ((b : Summary) → door.success (door.returned (gives b)) ≡ true) → Accepts door t ns s o y
accepts_by door t ns s o y small_t small_s is fails always =
    record {
      all_read = λ f.
          let (r, e) = all_read t ns s o f in
          given_success door (each summary (checked_record t ns s o)) y is (summary r) (ap (each summary) e) always;
      only_read = λ h.
          let (z, e) = succeeded door (each summary (checked_record t ns s o)) y is fails h in
          let (r, accepted, _) = each_back summary (checked_record t ns s o) z e in
          (r, only_read t ns s o small_t small_s r accepted);
    }

-- ---- a text by itself
text_holds : (text : List ℕ) (l l' : Lent) (r : Record) (i : RecordInfo) → header.text_by reading text l ≡ gives r → i ≡ info_of r → l' ≡ holding r l
    → (r : Record) × InText text r × Holds r i l'
text_holds text l l' r i e is held =
    let says = (fitted_in_text text l r e).0 in
    let w = text_readable reading reading_keeps text r (in_text_read text r says) in
    let parts = fronts_by r l l' i is held in
    (r, says, record { fronts = parts; valid = checked_valid _ _ _ _ r (checked_fronts r i l' parts (sound_checked r w.sound w.limits)) })

pub accepts_exactly : AcceptsExactly
accepts_exactly =
    record {
      valid_only = λ t ns s o r e. checked_valid t ns s o r e;
      all_valid = λ t ns s o r v. valid_checked t ns s o r v;
      check = λ t ns s o x h. accepts_by in_rattle t ns s o _ h.small_table h.small_shape h.answered (rattle_fails _) (λ b. refl);
      npy_check = λ t ns s o said r said' h.
          accepts_by (in_c summary_values said) t ns s o (r, said') h.small_table h.small_shape
          (c_returned (returns_same (ap (λ (g : Outcome Order). then g (λ o. each summary (checked_record t ns s o))) (order_back o)) h.answered))
          (c_fails summary_values said _ (each_numbered summary _ (record_checked_numbered t ns s o))) (λ b. refl);
      read_text = λ text l l' x i h e.
          let (r, given_is, same) = each_back info_of (header.text_by reading text l) i (sym (h.answered reading reading_keeps) ∙ e) in
          text_holds text l l' r i given_is (sym same) (h.after reading reading_keeps ∙ ap (λ (o : Outcome Record). afterwards holding o l) given_is);
      npy_read_text = λ text l l' said said' h.
          let o = header.text_by reading text l in
          let (i, e, v) = found_value (each info_of o) (each_numbered info_of o (text_numbered reading text l)) (h.answered reading reading_keeps) in
          let (r, given_is, same) = each_back info_of o i e in
          (i, v, text_holds text l l' r i given_is (sym same) (h.after reading reading_keeps ∙ ap (λ (o : Outcome Record). afterwards holding o l) given_is));
    }
