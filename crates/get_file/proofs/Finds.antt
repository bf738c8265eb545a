-- The place of an element by a header that was read: the parts of its record are at the fronts of the rooms, where the check accepts them.
use Rattle.refusal.specs.Answers.{answer}
use Rattle.place_area.specs.declared.Run.{Run}
use Rattle.std.specs.Prelude.{Err, Ok, Result}
use Prim.Native.Nat.{ℕ, ◌*◌}
use mathlib.Core.Path.{◌≡◌, sym, ap, subst, ◌∙◌}
use mathlib.Core.Bool.{Bool}
use mathlib.Core.List.{List}
use lib.ListN.{length, length-replicate}
use Rattle.counts.specs.Outcome.{Outcome, refused, then}
use Rattle.refusal.specs.declared.Refusal.{Refusal}
use Rattle.refusal.specs.Numbers.{number_of}
use Rattle.dtype.specs.Record.{entry_width, Record}
use Rattle.record.specs.Rooms.{Lent}
use Rattle.record.specs.Header as header
use Rattle.header.specs.declared.RecordInfo.{RecordInfo}
use Rattle.header.specs.declared.Header.{Header}
use Rattle.header.specs.Reads.{ReadsHeld}
use Rattle.check_record.proofs.Accepts.{valid_checked}
use Rattle.place.specs.Place.{placed, place_of}
use Rattle.read_back.specs.Rooms.{table_stored, names_stored, shape_stored, Holds}
use Rattle.read_back.proofs.Held.{Alike, held_found, held_refused}
use Rattle.get_file.specs.Found.{ample, found_in}

-- ---- the fronts of the rooms, as the functions gave them
module _ (file start : ℕ) (r : Record) (info : RecordInfo) (l : Lent) (x p : List ℕ) (h : Holds r info l) where
  pub placed_fronts : (t ns s : List ℕ) (a : Result Run Refusal) → t ≡ table_stored info l → ns ≡ names_stored info l → s ≡ shape_stored info l
      → answer a ≡ place_of file start t ns s info.order x p → answer a ≡ placed file start r x p
  unfolding place_of
  placed_fronts t ns s a et en es w =
      w
      ∙ ap (λ (u : List ℕ). place_of file start u ns s info.order x p) et
      ∙ ap (λ (u : List ℕ). place_of file start (table_stored info l) u s info.order x p) en
      ∙ ap (λ (u : List ℕ). place_of file start (table_stored info l) (names_stored info l) u info.order x p) es
      ∙ ap (λ (o : Outcome Record). then o (λ z. placed file start z x p)) (valid_checked _ _ _ _ _ h.valid)

-- ---- the whole
module _ (longer : Bool) (held : List ℕ) (file : ℕ) (x p : List ℕ) (l l' : Lent) (r : Result Header Refusal)
    (a : length l.table ≡ entry_width * 512) (b : length l.names ≡ 65536) (c : length l.shape ≡ 32) (w : ReadsHeld longer held l r l') where
  alike : Alike l ample
  unfolding ample
  alike =
      record {
        tables = a ∙ sym (length-replicate {A = ℕ} (entry_width * 512) 0);
        names = b ∙ sym (length-replicate {A = ℕ} 65536 0);
        shapes = c ∙ sym (length-replicate {A = ℕ} 32 0);
      }

  reads : (q : Result Header Refusal) → r ≡ q → ReadsHeld longer held l q l'
  reads q e = subst (λ (y : Result Header Refusal). ReadsHeld longer held l y l') e w

  pub finds_place : (h : Header) (y : Result Run Refusal) → r ≡ Ok h → ((k : Record) → Holds k h.info l' → answer y ≡ placed file h.start.0 k x p) → answer y ≡ found_in longer held file x p
  unfolding found_in
  finds_place h y e f =
      let found = held_found longer held l ample alike h l' (reads (Ok h) e) in
      let k = found.header_found in
      f k.says found.holds ∙ ap (λ (n : ℕ). placed file n k.says x p) found.start_is
      ∙ sym (ap (λ (o : Outcome header.Header). then o (λ h. placed file h.data_start h.says x p)) found.given)

  pub finds_none : (why : Refusal) → r ≡ Err why → refused (number_of why) ≡ found_in longer held file x p
  unfolding found_in
  finds_none why e =
      sym (ap (λ (o : Outcome header.Header). then o (λ h. placed file h.data_start h.says x p)) (held_refused longer held l ample alike why l' (reads (Err why) e)))
