-- The first bytes of a file are enough (specs/Held.antt): the prefix of a part is the file's, the text after it is the same if it ends within the part, and by crate
-- record the header is then the file's.
use Rattle.header.specs.declared.Header.{Header}
use Rattle.std.specs.Prelude.{Err, Ok, Result}
use Prim.Native.Nat.{ℕ, ◌<◌, ◌≤◌}
use native.Mathlib.Omega.{arith}
use mathlib.Core.Path.{◌≡◌, sym, ap, ◌∙◌}
use mathlib.Core.Bool.{true, false}
use mathlib.Core.List.{List}
use lib.ListN.{length, take}
use lib.Seq.{length-take-le}
use borrow.Author.Tests.{lt-ltb, le-ltb}
use Rattle.counts.specs.Outcome.{Outcome, gives, refused, then, each, afterwards}
use Rattle.refusal.specs.declared.Refusal.{Refusal}
use Rattle.refusal.proofs.Names.{number_apart}
use Rattle.counts.proofs.Apart.{refused_gives}
use Rattle.counts.proofs.Holds.{Holds, holds_each, then_alike_held}
use Rattle.record.specs.Prefix.{Prefix, data_start_of, prefix, text_held}
use Rattle.record.specs.Rooms.{Lent, rooms_of}
use Rattle.record.specs.Header as header
use Rattle.record.proofs.Fronts.{prefix_front, front_enough}
use Rattle.judge.specs.Judged.{reading}
use Rattle.judge.proofs.Top.{reading_keeps}
use Rattle.header.specs.Reads.{header_info, header_answer, after_prefix, held_into}
use Rattle.npy_codes.proofs.Then.{returns_same}
use Rattle.claims.specs.Held.{HeldEnough}
use Rattle.claims.proofs.Readings.{read_held_tied, npy_read_held_tied}

refused_by : (x : Result Header Refusal) → header_answer x ≡ refused 23 → x ≡ Err Refusal.Room
refused_by (Ok h) a = refused_gives (sym a)
refused_by (Err f) a = ap Err (number_apart f Refusal.Room cc)

-- a part whose header ends within it
module _ (part : List ℕ) (l : Lent) where
  text_same : (p : Prefix) → data_start_of p ≤ length part → text_held true p part ≡ text_held false p part
  unfolding text_held
  text_same p h = rw (text_held, le-ltb (length part) (data_start_of p) h)

  held_same : Holds (λ p. data_start_of p ≤ length part) (prefix part) → held_into true part l ≡ header.held_by reading false part l
  held_same h =
      then_alike_held (λ p. data_start_of p ≤ length part) (prefix part) (λ p. after_prefix true part p l)
      (λ p. then (text_held false p part) (λ s. then (header.record_in reading s) (header.stored (rooms_of l) p))) h
      (λ p e. ap (λ t. then t (λ s. then (header.record_in reading s) (header.stored (rooms_of l) p))) (text_same p e))

  held_past : (p : Prefix) → prefix part ≡ gives p → length part < data_start_of p → held_into true part l ≡ refused 23
  unfolding text_held
  held_past p e h =
      ap (λ (o : Outcome Prefix). then o (λ q. after_prefix true part q l)) e
      ∙ rw (text_held, lt-ltb (length part) (data_start_of p) h)

module _ (k : ℕ) (file : List ℕ) (twelve : 12 ≤ k) (longer : k < length file) where
  held_length : length (take k file) ≡ k
  held_length = length-take-le k file (omega arith)

  front_within : ((p : Prefix) → prefix file ≡ gives p → data_start_of p ≤ k) → (l : Lent) → held_into true (take k file) l ≡ held_into false file l
  front_within h l =
      let len = held_length in
      held_same (take k file) l
      (holds_each (λ p. data_start_of p ≤ length (take k file)) (prefix (take k file)) (λ p e. rw len (h p (sym (prefix_front k file twelve) ∙ e))))
      ∙ front_enough reading (rooms_of l) k file twelve (holds_each (λ p. data_start_of p ≤ k) (prefix file) h)

  front_past : (p : Prefix) → prefix file ≡ gives p → k < data_start_of p → (l : Lent) → held_into true (take k file) l ≡ refused 23
  front_past p e h l = let len = held_length in held_past (take k file) l p (prefix_front k file twelve ∙ e) (rw len h)

-- ---- the claim
pub held_enough : HeldEnough
held_enough =
    record {
      read_held = λ k file l l' x twelve longer h.
          record {
            within = λ ends.
                let same = front_within k file twelve longer ends l in
                read_held_tied false file l x l'
                (record {
                  answered = h.answered reading reading_keeps ∙ ap (each header_info) same;
                  after = h.after reading reading_keeps ∙ ap (λ (o : Outcome header.Header). afterwards header.holding_header o l) same;
                });
            past = λ p e ends.
                let same = front_past k file twelve longer p e ends l in (
                  refused_by x (h.answered reading reading_keeps ∙ ap (each header_info) same),
                  h.after reading reading_keeps ∙ ap (λ (o : Outcome header.Header). afterwards header.holding_header o l) same,
                );
          };
      npy_read_held = λ k file l l' said said' r twelve longer h.
          record {
            within = λ ends.
                let same = front_within k file twelve longer ends l in
                npy_read_held_tied false file l said r l' said'
                (record {
                  answered = returns_same (ap (each header_info) same) (h.answered reading reading_keeps);
                  rooms = h.after reading reading_keeps ∙ ap (λ (o : Outcome header.Header). afterwards header.holding_header o l) same;
                });
            past = λ p e ends.
                let same = front_past k file twelve longer p e ends l in
                let t = returns_same (ap (each header_info) same) (h.answered reading reading_keeps) in
                (t.answered, h.after reading reading_keeps ∙ ap (λ (o : Outcome header.Header). afterwards header.holding_header o l) same, t.after);
          };
    }
