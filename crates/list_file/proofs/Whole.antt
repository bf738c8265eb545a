-- What the text for a file is: a header that was read is in the rooms and is accepted, so its listing is refused only where it has no room.
use Rattle.counts.specs.declared.Bytes.{Bytes}
use Rattle.std.specs.Prelude.{Err, Ok, Result}
use Prim.Native.Nat.{ℕ, ◌^◌, ◌-◌, ◌*◌, ◌<◌, ◌≤◌}
use mathlib.Core.Path.{◌≡◌, sym, ap, subst, ◌∙◌}
use mathlib.Core.Bool.{Bool}
use mathlib.Core.List.{List, []}
use lib.Dec.{ltb}
use lib.ListN.{length, take, length-replicate}
use Rattle.counts.specs.Outcome.{Outcome, then}
use Rattle.counts.specs.Owes.{roomed, Owes}
use Rattle.counts.proofs.Owes.{owes_same}
use Rattle.refusal.specs.declared.Refusal.{Refusal}
use Rattle.refusal.specs.Numbers.{number_of}
use Rattle.emit.specs.Emits.{Emits}
use Rattle.emit.proofs.Texts.{written_short, written_whole}
use Rattle.dtype.specs.Record.{entry_width, Record}
use Rattle.record.specs.Rooms.{Lent}
use Rattle.header_prefix.specs.Answer.{version_is}
use Rattle.list_text.specs.Listing.{listing}
use Rattle.header.specs.declared.Header.{Header}
use Rattle.header.specs.Reads.{held_into, ReadsHeld}
use Rattle.list_record.specs.Answer.{Lists}
use Rattle.check_record.proofs.Accepts.{valid_checked}
use Rattle.read_back.specs.Rooms.{table_stored, names_stored, shape_stored}
use Rattle.list_file.specs.Report.{held_most, fresh, refused_line, text_for, report_of, WritesText, Reports}
use Rattle.list_file.specs.Said.{said_text, ListsHeader, WritesSaid}
use Rattle.read_back.proofs.Held.{Alike, held_found, held_refused}

-- ---- the listing of a header that was read: the fronts of the rooms, as the functions gave them
module _ (h : Header) (l : Lent) (room room' t ns s : List ℕ) (x : Result Bytes Refusal) (et : t ≡ table_stored h.info l) (en : ns ≡ names_stored h.info l) (es : s ≡ shape_stored h.info l)
    (w : Lists (version_is h.version) h.start.0 t ns s h.info.order room x room') where
  pub fronts_listed : ListsHeader h l room x room'
  fronts_listed =
      let v = version_is h.version in
      let start = h.start.0 in
      let o = h.info.order in
      subst (λ (u : List ℕ). Lists v start u (names_stored h.info l) (shape_stored h.info l) o room x room') et
      (subst (λ (u : List ℕ). Lists v start t u (shape_stored h.info l) o room x room') en
      (subst (λ (u : List ℕ). Lists v start t ns u o room x room') es w))

-- ---- what a reading says is a case of the text
pub said_read : (r : Result Header Refusal) (h : Header) (l : Lent) (room : List ℕ) (x : Result Bytes Refusal) (room' : List ℕ) → r ≡ Ok h → ListsHeader h l room x room' → WritesSaid r l room x room'
said_read r h l room x room' e w = subst (λ (y : Result Header Refusal). WritesSaid y l room x room') (sym e) w

pub said_refused : (r : Result Header Refusal) (why : Refusal) (l : Lent) (room : List ℕ) (x : Result Bytes Refusal) (room' : List ℕ) → r ≡ Err why
    → WritesText (refused_line (number_of why) []) room x room' → WritesSaid r l room x room'
said_refused r why l room x room' e w = subst (λ (y : Result Header Refusal). WritesSaid y l room x room') (sym e) w

-- ---- a refusal's line
module _ (k : ℕ) (scratch mid : List ℕ) (n : ℕ) (room : List ℕ) (fits : n < 2 ^ 64) (short : length room < 2 ^ 64 - 1) (measured : Emits (refused_line k) scratch 0 mid n) where
  pub line_28 : length room < n → WritesText (refused_line k []) room (Err Refusal.OutputRoom) room
  line_28 lt = written_short (refused_line k) scratch mid n room fits short measured lt

  pub line_written : (out : List ℕ) (q : ℕ) → n ≤ length room → Emits (refused_line k) room 0 out q → WritesText (refused_line k []) room (Ok (record { 0 = n })) out
  line_written out q le h = written_whole (refused_line k) scratch mid n room fits short measured out q le h

pub line_known : (k n : ℕ) (room : List ℕ) (answer : Outcome ℕ) (room' : List ℕ) → k ≡ n → Owes (roomed 28 room (refused_line k [])) room answer room'
    → Owes (roomed 28 room (refused_line n [])) room answer room'
line_known k n room answer room' e w = subst (λ (m : ℕ). Owes (roomed 28 room (refused_line m [])) room answer room') e w

-- ---- after a reading it is the text for the header that was read, or for its refusal
module _ (longer : Bool) (file : List ℕ) (l m : Lent) (alike : Alike l m) (l' : Lent) (room : List ℕ) where
  pub said_text_lem : (r : Result Header Refusal) → ReadsHeld longer file l r l' → said_text r l' room ≡ roomed 28 room (text_for (held_into longer file m))
  said_text_lem (Ok h) w =
      let y = held_found longer file l m alike h l' w in
      let k = y.header_found in
      let text : listing (version_is h.version) h.start.0 k.says [] ≡ text_for (held_into longer file m) =
      ap (λ u. listing u h.start.0 k.says []) y.same_version ∙ ap (λ n. listing k.version n k.says []) y.start_is ∙ sym (ap text_for y.given) in
      ap (λ (o : Outcome Record). then o (λ z. roomed 28 room (listing (version_is h.version) h.start.0 z []))) (valid_checked _ _ _ _ _ y.holds.valid) ∙ ap (roomed 28 room) text
  said_text_lem (Err f) w = ap (roomed 28 room) (sym (ap text_for (held_refused longer file l m alike f l' w)))

-- ---- the whole
-- rooms of these lengths are as good as fresh ones
module _ (l : Lent) (a : length l.table ≡ entry_width * 512) (b : length l.names ≡ 16384) (c : length l.shape ≡ 32) where
  fresh_alike : Alike l fresh
  unfolding fresh
  fresh_alike =
      record {
        tables = a ∙ sym (length-replicate {A = ℕ} (entry_width * 512) 0);
        names = b ∙ sym (length-replicate {A = ℕ} 16384 0);
        shapes = c ∙ sym (length-replicate {A = ℕ} 32 0);
      }

module _ (file part : List ℕ) (l l' : Lent) (r : Result Header Refusal) (room : List ℕ) (x : Result Bytes Refusal) (room' : List ℕ) (held : part ≡ take held_most file)
    (a : length l.table ≡ entry_width * 512) (b : length l.names ≡ 16384) (c : length l.shape ≡ 32) (w : ReadsHeld (ltb held_most (length file)) part l r l') where
  reads : ReadsHeld (ltb held_most (length file)) (take held_most file) l r l'
  reads = subst (λ (y : List ℕ). ReadsHeld (ltb held_most (length file)) y l r l') held w

  pub reports_said : WritesSaid r l' room x room' → Reports file room x room'
  unfolding report_of
  reports_said v = owes_same _ _ room _ _ (said_text_lem (ltb held_most (length file)) (take held_most file) l fresh (fresh_alike l a b c) l' room r reads) v
