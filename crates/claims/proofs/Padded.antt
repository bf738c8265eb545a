-- Every header that is written has a multiple of 64 bytes, with the fewest spaces, and its data starts right after it; and a header's text may have any blanks after it
-- (specs/Padded.antt). The arithmetic is crate record's, the blanks are the grammar's; what was written and what is read are RoundTrips.antt's.
use Prim.Native.Nat.{ℕ, zero, suc, ◌+◌, ◌%◌}
use mathlib.Core.Path.{◌≡◌, refl, sym, ap, subst, ◌∙◌}
use mathlib.Core.List.{List, [], ◌∷◌, ◌++◌}
use mathlib.Core.Bool.{Bool, true, false}
use lib.ListN.{length, take, replicate}
use Rattle.counts.specs.Outcome.{gives, unless}
use Rattle.counts.proofs.Apart.{gives_apart}
use Rattle.counts.proofs.Holds.{unless_gives}
use Rattle.literal_grammar.specs.Print.{spaces}
use Rattle.literal_grammar.proofs.Printed.{print_front}
use Rattle.literal_grammar.proofs.Blanks.{any_blanks}
use Rattle.dtype.specs.declared.Order.{Order}
use Rattle.dtype.specs.Record.{Record}
use Rattle.record.specs.Prefix.{text_start, prefix, text_held}
use Rattle.record.specs.Layout.{header_layout}
use Rattle.record.specs.Padding.{spaces_after, padding, is_ascii, version_for}
use Rattle.record.specs.File.{bare_text, version, text, file_by, file_of}
use Rattle.record.specs.Rooms.{needs, too_small, Lent, rooms_of}
use Rattle.record.specs.Header as header
use Rattle.record.proofs.Clean.{other_blanks_formed}
use Rattle.record.proofs.Files.{prefix_for, file_append, prefix_back, text_back}
use Rattle.record.proofs.Padded.{padded_fewest, as_one_zero, as_two_zero, as_three_zero}
use Rattle.record.proofs.Printed.{text_length}
use Rattle.record.proofs.RoundTrips.{header_for, file_whole, file_multiple}
use Rattle.check_record.specs.Valid.{Valid}
use Rattle.header.specs.Reads.{HeaderInfo, held_into}
use Rattle.claims.specs.Padded.{PaddedHeader, PaddedTo64, Aligned, AlignedInC, AnyPadding}
use Rattle.claims.proofs.Found.{WasRead, read_was, npy_read_was}
use Rattle.claims.proofs.RoundTrips.{Wrote, sound_read, header_wrote, npy_header_wrote}

-- ---- the bytes of a record's header
spaces_are : (n : ℕ) → spaces n (10 ∷ []) ≡ replicate n 32 ++ 10 ∷ []
spaces_are zero = refl
spaces_are (suc n) = ap (λ (u : List ℕ). 32 ∷ u) (spaces_are n)

file_padded : (r : Record) → PaddedHeader r (file_of r)
unfolding file_of text version
file_padded r =
    let n = length (bare_text r) in
    let v = version r in
    let chosen : (ascii : Bool) → is_ascii (bare_text r) ≡ ascii → v ≡ version_for ascii n = λ ascii e. ap (λ (b : Bool). version_for b n) e in
    record {
      version = v;
      spaces = spaces_after (text_start v + n);
      text = text r;
      text_is = print_front (header_layout r) (padding v n) ∙ ap (λ (u : List ℕ). bare_text r ++ u) (spaces_are (spaces_after (text_start v + n)));
      is = ap (λ (m : ℕ). file_by v m (text r)) (sym (text_length r));
      multiple = file_multiple r;
      fewest = padded_fewest (text_start v + n);
      short = λ ascii few. chosen true ascii ∙ as_one_zero n few;
      long = λ ascii many. chosen true ascii ∙ as_two_zero n many;
      not_ascii = λ other. chosen false other ∙ as_three_zero n;
    }

-- ---- what a call wrote is such a header, and where it is read the data starts after it
module _ (t ns s : List ℕ) (o : Order) (out : List ℕ) (n : ℕ) (out' : List ℕ) (w : Wrote t ns s o out n out') where
  wrote_padded : (r : Record) × Valid t ns s o r × PaddedHeader r (take n out')
  wrote_padded = (w.says, w.valid, subst (PaddedHeader w.says) (sym w.bytes) (file_padded w.says))

  wrote_multiple : n % 64 ≡ 0
  wrote_multiple = subst (λ (m : ℕ). m % 64 ≡ 0) w.long (file_multiple w.says)

  starts_after : (rest : List ℕ) (l l' : Lent) (i : HeaderInfo) → WasRead (take n out' ++ rest) l l' i → i.data_start ≡ n
  starts_after rest l l' i was =
      let r = w.says in
      let short = too_small (rooms_of l) (needs r) in
      let file = ap (λ (bytes : List ℕ). held_into false (bytes ++ rest) l) w.bytes in
      let is : unless short 23 (gives (header_for r)) ≡ gives was.header_found = sym (sound_read r w.sound out w.writes rest l) ∙ sym file ∙ was.given in
      let same : header_for r ≡ was.header_found = gives_apart (unless_gives short 23 (gives (header_for r)) is) in
      ap (λ (i : HeaderInfo). i.data_start) was.values ∙ sym (ap (λ (h : header.Header). h.data_start) same) ∙ sym (file_whole r) ∙ w.long

-- WHAT IS WRITTEN HAS A MULTIPLE OF 64 BYTES, WITH THE FEWEST SPACES
pub padded_to_64 : PaddedTo64
padded_to_64 =
    record {
      write_header = λ t ns s o out out' n h. wrote_padded t ns s o out n out' (header_wrote t ns s o out out' n h);
      npy_write_header = λ t ns s order out out' count n h.
          let (o, named, w) = npy_header_wrote t ns s order out out' count n h in (o, named, wrote_padded t ns s o out n out' w);
    }

-- DATA STARTS AT A MULTIPLE OF 64
pub aligned : Aligned
aligned t ns s o out out' n h =
    let w = header_wrote t ns s o out out' n h in
    (wrote_multiple t ns s o out n out' w, λ rest l l' x i c e. starts_after t ns s o out n out' w rest l l' i (read_was (take n out' ++ rest) l l' x i c e))

pub aligned_in_c : AlignedInC
aligned_in_c t ns s order out out' count n h =
    let (o, named, w) = npy_header_wrote t ns s order out out' count n h in (
      wrote_multiple t ns s o out n out' w,
      λ rest l l' said said' c. let (i, values, was) = npy_read_was (take n out' ++ rest) l l' said said' c in (i, values, starts_after t ns s o out n out' w rest l l' i was),
    )

-- THE READER ACCEPTS ANY PADDING
pub any_padding : AnyPadding
unfolding text_held
any_padding text blanks others r says blank blank' short v fits rest =
    let padded = text ++ others in
    let n = length padded in
    let file = file_append v n padded rest in
    record {
      front = prefix_for v n;
      begins = ap prefix file ∙ prefix_back v n (padded ++ rest) short fits;
      text = padded;
      whole = ap (text_held false (prefix_for v n)) file ∙ text_back v padded rest;
      says =
          record {
            well_formed = other_blanks_formed text blanks others blank blank' says.well_formed;
            value = says.value;
            literal = (any_blanks text blanks others blank blank' says.literal.0, says.literal.1);
            is_record = says.is_record;
          };
      same_version = refl;
      data_starts = refl;
    }
