-- The C interface (specs/Codes.antt): the numbers are those of Numbers.antt, and what a refusal leaves is what the functions below leave.
use Prim.Native.Nat.{ℕ}
use native.Mathlib.Omega.{arith}
use mathlib.Core.Path.{◌≡◌, refl, sym, ap, ◌∙◌}
use mathlib.Core.List.{List, [], ◌∷◌}
use lib.ListN.{length, drop, get_or}
use borrow.Author.Tests.{leb-true}
use Rattle.refusal.specs.Numbers.{last_number}
use Rattle.counts.specs.Outcome.{Outcome, gives, refused, then, each, afterwards}
use Rattle.counts.specs.Lists.{at_front}
use Rattle.counts.proofs.Owes.{afterwards_refused, owes_rest}
use Rattle.counts.proofs.OneOutcome.{pair_of}
use Rattle.type_str.specs.TypeString.{type_string}
use Rattle.type_str.specs.Text.{type_printed}
use Rattle.dtype.specs.declared.Order.{Order}
use Rattle.dtype.specs.Entries.{entries_of}
use Rattle.dtype.specs.Record.{name_bytes_of, Record}
use Rattle.dtype.specs.Shape.{strides}
use Rattle.shape.specs.Count as shape
use Rattle.record.specs.Prefix.{version_of}
use Rattle.record.specs.Rooms.{Lent, holding}
use Rattle.record.specs.Header as record_of_file
use Rattle.judge.specs.Judged.{reading}
use Rattle.judge.proofs.Top.{reading_keeps}
use Rattle.check_record.specs.Answer.{summary}
use Rattle.check_record.specs.Checked.{checked_record}
use Rattle.place_item.specs.Item.{item_of}
use Rattle.place.specs.Place.{place_of}
use Rattle.header.specs.declared.RecordInfo.{RecordInfo}
use Rattle.header.specs.Reads as header
use Rattle.write.specs.Writes.{header_written}
use Rattle.list_record.specs.Answer.{listed}
use Rattle.npy_codes.specs.Codes.{Returns, one_number, order_for, type_for, type_values, text_values, header_values, summary_values, run_values}
use Rattle.npy.specs.Calls.{Puts}
use Rattle.claims.specs.Beyond.{SameRest}
use Rattle.npy_codes.specs.Values.{value_values}
use Rattle.claims.specs.Codes.{Coded, ZeroAnswers, RefusedAlone, AloneInC, RestInC}
use Rattle.record.proofs.Numbers.{Numbered, then_numbered, each_numbered, type_numbered}
use Rattle.claims.proofs.Numbers.{held_header_numbered, text_numbered, for_numbered, version_for_numbered, type_for_numbered, record_checked_numbered, header_written_numbered, listed_numbered, type_printed_numbered, count_numbered, strides_numbered, item_numbered, place_numbered, read_bytes_numbered, read_points_numbered, write_bytes_numbered, write_points_numbered, element_bytes_numbered, element_points_numbered, read_value_numbered, element_value_numbered}
use Rattle.claims.proofs.Refusals.{strides_left}
use Rattle.claims.proofs.Beyond.{holding_rest, strides_rest}

-- ---- the code
module _ {A M : Type 0} (values : A → List ℕ) {before after : M} {said said' : List ℕ} {r : ℕ} where
  pub coded : (o : Outcome A) → Numbered o → Returns values o said r said' → ((n : ℕ) → o ≡ refused n → said' ≡ said → after ≡ before) → Coded values o before r after said'
  coded (gives a) h t k = record { zero = λ z. (a, refl, t.after); other = λ z. absurd (z t.answered) }
  coded (refused n) h t k =
      record {
        zero = λ z. absurd (let one = leb-true 1 n h.so.0 in let is = t.answered in omega arith);
        other = λ z.
            record {
              is = ap refused (sym t.answered);
              from_one = rw t.answered (leb-true 1 n h.so.0);
              to_last = rw t.answered (leb-true n last_number h.so.1);
              unchanged = k n refl t.after;
            };
      }

returned_coded : {A : Type 0} (values : A → List ℕ) (o : Outcome A) (said : List ℕ) (r : ℕ) (said' : List ℕ) → Numbered o → Returns values o said r said'
    → Coded values o said r said' said'
returned_coded values o said r said' h t = coded values o h t (λ n e s. s)

-- a room and the values together
beside : {A M : Type 0} (values : A → List ℕ) (o : Outcome A) (l l' : M) (said said' : List ℕ) (r : ℕ) → Numbered o → Returns values o said r said'
    → ((n : ℕ) → o ≡ refused n → l' ≡ l) → Coded {M = M × List ℕ} values o (l, said) r (l', said') said'
beside values o l l' said said' r h t k = coded values o h t (λ n e s. pair_of (k n e) s)

puts_coded : (put : Outcome (List ℕ)) (room count : List ℕ) (r : ℕ) (room' count' : List ℕ) → Numbered put → Puts put room count r room' count'
    → Coded {M = List ℕ × List ℕ} one_number (each length put) (room, count) r (room', count') count'
puts_coded put room count r room' count' h c =
    beside one_number (each length put) room room' count count' r (each_numbered length put h) c.answered
    (λ n e. c.room_after ∙ afterwards_refused at_front length room put n e)

strides_kept : (s room : List ℕ) (given : Outcome Order) (n : ℕ) → then given (λ o. shape.strides_count o s (length room)) ≡ refused n
    → afterwards (λ o. afterwards (λ n. at_front (strides o s)) (shape.strides_count o s (length room))) given room ≡ room
strides_kept s room (gives o) n e = strides_left (strides o s) room n (shape.strides_count o s (length room)) e
strides_kept s room (refused k) n e = refl

pub zero_answers : ZeroAnswers
zero_answers =
    record {
      npy_read_held = λ longer file l said reading keeps r new matched c.
          beside header_values _ l new said matched r (each_numbered header.header_info _ (held_header_numbered reading longer file l)) (c.answered reading keeps)
          (λ n e. c.after reading keeps ∙ afterwards_refused record_of_file.holding_header header.header_info l (record_of_file.held_by reading longer file l) n e);
      npy_read_text = λ text l said reading keeps r new matched c.
          beside text_values _ l new said matched r (each_numbered header.info_of _ (text_numbered reading text l)) (c.answered reading keeps)
          (λ n e. c.after reading keeps ∙ afterwards_refused holding header.info_of l (record_of_file.text_by reading text l) n e);
      npy_check = λ t ns s order said r x c.
          returned_coded summary_values _ said r x
          (then_numbered (order_for order) (λ o. each summary (checked_record t ns s o)) (for_numbered order) (λ o. each_numbered summary _ (record_checked_numbered t ns s o))) c.answered;
      npy_write_header = λ t ns s order room count r new matched c.
          puts_coded _ room count r new matched (then_numbered (order_for order) (λ o. header_written t ns s o room) (for_numbered order) (λ o. header_written_numbered t ns s o room)) c.writes;
      npy_list = λ version start t ns s order room count r new matched c.
          puts_coded _ room count r new matched
          (then_numbered (version_of version 0) (λ v. then (order_for order) (λ o. listed v start t ns s o room)) (version_for_numbered version)
          (λ v. then_numbered (order_for order) (λ o. listed v start t ns s o room) (for_numbered order) (λ o. listed_numbered v start t ns s o room))) c;
      npy_count = λ s order count r x c.
          returned_coded one_number _ count r x (then_numbered (order_for order) (λ o. shape.item_count o s) (for_numbered order) (λ o. count_numbered o s)) c;
      npy_strides = λ s order room count r new matched c.
          beside one_number _ room new count matched r
          (then_numbered (order_for order) (λ o. shape.strides_count o s (length room)) (for_numbered order) (λ o. strides_numbered o s (length room))) c.answered
          (λ n e. c.room_after ∙ strides_kept s room (order_for order) n e);
      npy_item_number = λ s order index item r x c.
          returned_coded one_number _ item r x (then_numbered (order_for order) (λ o. item_of o s index) (for_numbered order) (λ o. item_numbered o s index)) c;
      npy_place = λ file start t ns s order i p run r x c.
          returned_coded run_values _ run r x
          (then_numbered (order_for order) (λ o. place_of file start t ns s o i p) (for_numbered order) (λ o. place_numbered file start t ns s o i p)) c;
      npy_element_bytes = λ file start t ns s order i p room count r new matched c.
          puts_coded _ room count r new matched (then_numbered (order_for order) _ (for_numbered order) (λ o. element_bytes_numbered file start t ns s o i p room)) c;
      npy_element_points = λ file start t ns s order i p room count r new matched c.
          puts_coded _ room count r new matched (then_numbered (order_for order) _ (for_numbered order) (λ o. element_points_numbered file start t ns s o i p room)) c;
      npy_read_bytes = λ run order letter size units room count r new matched c.
          puts_coded _ room count r new matched
          (then_numbered (type_for order letter size units) _ (type_for_numbered order letter size units) (λ t. read_bytes_numbered t run room)) c;
      npy_read_points = λ run order letter size units room count r new matched c.
          puts_coded _ room count r new matched
          (then_numbered (type_for order letter size units) _ (type_for_numbered order letter size units) (λ t. read_points_numbered t run room)) c;
      npy_element_value = λ file start t ns s order i p said r x c.
          returned_coded value_values _ said r x (then_numbered (order_for order) _ (for_numbered order) (λ o. element_value_numbered file start t ns s o i p)) c.answered;
      npy_read_value = λ run order letter size units said r x c.
          returned_coded value_values _ said r x (then_numbered (type_for order letter size units) _ (type_for_numbered order letter size units) (λ t. read_value_numbered t run)) c.answered;
      npy_write_bytes = λ order letter size units value room count r new matched c.
          puts_coded _ room count r new matched
          (then_numbered (type_for order letter size units) _ (type_for_numbered order letter size units) (λ t. write_bytes_numbered t value room)) c;
      npy_write_points = λ order letter size units value room count r new matched c.
          puts_coded _ room count r new matched
          (then_numbered (type_for order letter size units) _ (type_for_numbered order letter size units) (λ t. write_points_numbered t value room)) c;
      npy_type_read = λ text said r x c. returned_coded type_values (type_string text) said r x (type_numbered text) c;
      npy_type_print = λ order letter size units room count r new matched c.
          puts_coded _ room count r new matched
          (then_numbered (type_for order letter size units) (λ t. type_printed t room) (type_for_numbered order letter size units) (λ t. type_printed_numbered t room)) c;
    }

coded_alone : {A M : Type 0} {values : A → List ℕ} {o : Outcome A} {before after : M} {r : ℕ} {said : List ℕ} → Coded values o before r after said → RefusedAlone before r after
coded_alone c h = let w = c.other h in (w.from_one, w.to_last, w.unchanged)

pub alone_in_c : AloneInC
alone_in_c =
    record {
      npy_read_held = λ longer file l said r room' said' h. coded_alone (zero_answers.npy_read_held longer file l said reading reading_keeps r room' said' h);
      npy_read_text = λ text l said r room' said' h. coded_alone (zero_answers.npy_read_text text l said reading reading_keeps r room' said' h);
      npy_check = λ t ns s order said r said' h. coded_alone (zero_answers.npy_check t ns s order said r said' h);
      npy_write_header = λ t ns s order out count r room' said' h. coded_alone (zero_answers.npy_write_header t ns s order out count r room' said' h);
      npy_list = λ version start t ns s order out count r room' said' h. coded_alone (zero_answers.npy_list version start t ns s order out count r room' said' h);
      npy_count = λ s order count r said' h. coded_alone (zero_answers.npy_count s order count r said' h);
      npy_strides = λ s order out count r room' said' h. coded_alone (zero_answers.npy_strides s order out count r room' said' h);
      npy_item_number = λ s order x item r said' h. coded_alone (zero_answers.npy_item_number s order x item r said' h);
      npy_place = λ file start t ns s order x p run r said' h. coded_alone (zero_answers.npy_place file start t ns s order x p run r said' h);
      npy_element_bytes = λ file start t ns s order x p out count r room' said' h. coded_alone (zero_answers.npy_element_bytes file start t ns s order x p out count r room' said' h);
      npy_element_points = λ file start t ns s order x p out count r room' said' h. coded_alone (zero_answers.npy_element_points file start t ns s order x p out count r room' said' h);
      npy_read_bytes = λ run order letter size units out count r room' said' h. coded_alone (zero_answers.npy_read_bytes run order letter size units out count r room' said' h);
      npy_read_points = λ run order letter size units out count r room' said' h. coded_alone (zero_answers.npy_read_points run order letter size units out count r room' said' h);
      npy_element_value = λ file start t ns s order x p said r said' h. coded_alone (zero_answers.npy_element_value file start t ns s order x p said r said' h);
      npy_read_value = λ run order letter size units said r said' h. coded_alone (zero_answers.npy_read_value run order letter size units said r said' h);
      npy_write_bytes = λ order letter size units value out count r room' said' h. coded_alone (zero_answers.npy_write_bytes order letter size units value out count r room' said' h);
      npy_write_points = λ order letter size units value out count r room' said' h. coded_alone (zero_answers.npy_write_points order letter size units value out count r room' said' h);
      npy_type_read = λ text said r said' h. coded_alone (zero_answers.npy_type_read text said r said' h);
      npy_type_print = λ order letter size units out count r room' said' h. coded_alone (zero_answers.npy_type_print order letter size units out count r room' said' h);
    }

-- ---- what was not needed
rest_for : (r : Record) (said : RecordInfo) (l l' : Lent) → said.entries ≡ entries_of r.dtype → said.names ≡ name_bytes_of r.dtype → said.rank ≡ length r.shape
    → l' ≡ holding r l → SameRest said l l'
rest_for r said l l' e n k q =
    record {
      table_rest = rw (e, q) (holding_rest r l).table_rest;
      names_rest = rw (n, q) (holding_rest r l).names_rest;
      shape_rest = rw (k, q) (holding_rest r l).shape_rest;
    }

same_left : (said : RecordInfo) (l l' : Lent) → l' ≡ l → SameRest said l l'
same_left said l l' q = record { table_rest = rw q refl; names_rest = rw q refl; shape_rest = rw q refl }

header_rest_returned : (t : header.HeaderInfo) (said : List ℕ) (l l' : Lent) (o : Outcome record_of_file.Header)
    → header_values t ≡ afterwards (λ a old. header_values a) (each header.header_info o) said → l' ≡ afterwards record_of_file.holding_header o l → SameRest t.info l l'
header_rest_returned t said l l' (gives h) e q =
    rest_for h.says t.info l l' (ap (λ x. get_or x 3 0) e) (ap (λ x. get_or x 4 0) e) (ap (λ x. get_or x 2 0) e) q
header_rest_returned t said l l' (refused n) e q = same_left t.info l l' q

text_rest_returned : (t : RecordInfo) (said : List ℕ) (l l' : Lent) (o : Outcome Record)
    → text_values t ≡ afterwards (λ a old. text_values a) (each header.info_of o) said → l' ≡ afterwards holding o l → SameRest t l l'
text_rest_returned t said l l' (gives r) e q = rest_for r t l l' (ap (λ x. get_or x 2 0) e) (ap (λ x. get_or x 3 0) e) (ap (λ x. get_or x 1 0) e) q
text_rest_returned t said l l' (refused n) e q = same_left t l l' q

-- the count is how many were written, or nothing was
spares : (o : Outcome ℕ) (room room' count : List ℕ) (n : ℕ) → ((m : ℕ) → o ≡ gives m → drop m room' ≡ drop m room) → ((k : ℕ) → o ≡ refused k → room' ≡ room)
    → n ∷ [] ≡ afterwards (λ a old. one_number a) o count → drop n room' ≡ drop n room
spares (gives m) room room' count n h k e = h n (ap gives (sym (ap (λ x. get_or x 0 0) e)))
spares (refused j) room room' count n h k e = ap (drop n) (k j refl)

spared : (put : Outcome (List ℕ)) (room count : List ℕ) (r : ℕ) (room' : List ℕ) (n : ℕ) → Puts put room count r room' (n ∷ []) → drop n room' ≡ drop n room
spared put room count r room' n c =
    spares (each length put) room room' count n (λ m e. owes_rest put room (each length put) room' m (record { answered = refl; room_after = c.room_after }) e)
    (λ k e. c.room_after ∙ afterwards_refused at_front length room put k e) c.answered.after

strides_after : (o : Order) (s out : List ℕ) (c : Outcome ℕ) → drop (length s) (afterwards (λ n. at_front (strides o s)) c out) ≡ drop (length s) out
strides_after o s out (gives n) = strides_rest o s out n (gives n) refl
strides_after o s out (refused n) = refl

strides_given : (s room : List ℕ) (given : Outcome Order)
    → drop (length s) (afterwards (λ o. afterwards (λ n. at_front (strides o s)) (shape.strides_count o s (length room))) given room) ≡ drop (length s) room
strides_given s room (gives o) = strides_after o s room (shape.strides_count o s (length room))
strides_given s room (refused n) = refl

pub rest_in_c : RestInC
rest_in_c =
    record {
      npy_read_held = λ longer file l l' said r t c.
          header_rest_returned t said l l' (header.held_into longer file l) (c.answered reading reading_keeps).after (c.after reading reading_keeps);
      npy_read_text = λ text l l' said r t c.
          text_rest_returned t said l l' (record_of_file.text_by reading text l) (c.answered reading reading_keeps).after (c.after reading reading_keeps);
      npy_write_header = λ t ns s order room count r room' n c. spared _ room count r room' n c.writes;
      npy_list = λ version start t ns s order room count r room' n c. spared _ room count r room' n c;
      npy_type_print = λ order letter size units room count r room' n c. spared _ room count r room' n c;
      npy_element_bytes = λ file start t ns s order x p room count r room' n c. spared _ room count r room' n c;
      npy_element_points = λ file start t ns s order x p room count r room' n c. spared _ room count r room' n c;
      npy_read_bytes = λ run order letter size units room count r room' n c. spared _ room count r room' n c;
      npy_read_points = λ run order letter size units room count r room' n c. spared _ room count r room' n c;
      npy_write_bytes = λ order letter size units value room count r room' n c. spared _ room count r room' n c;
      npy_write_points = λ order letter size units value room count r room' n c. spared _ room count r room' n c;
      npy_strides = λ s order room count r room' count' c. ap (drop (length s)) c.room_after ∙ strides_given s room (order_for order);
    }
