-- No second outcome satisfies a statement of the C interface: an outcome is the number that is returned and what all that was lent then holds.
use Prim.Native.Nat.{ℕ}
use mathlib.Core.Path.{◌≡◌, sym, ap, ◌∙◌}
use mathlib.Core.Bool.{Bool}
use mathlib.Core.List.{List, [], ◌∷◌}
use Rattle.counts.specs.Outcome.{Outcome, gives, refused}
use Rattle.counts.specs.OneOutcome.{OneOutcome}
use Rattle.record.specs.Rooms.{Lent}
use Rattle.judge.specs.Judged.{reading}
use Rattle.header.specs.Reads.{HeaderInfo}
use Rattle.header_feed.specs.declared.Feeding.{Feeding}
use Rattle.header_feed.specs.Feeds.{Progress, need_more, outcome, progress}
use Rattle.header_feed.proofs.Outcomes.{feed_one}
use Rattle.npy_codes.specs.Codes.{Returns}
use Rattle.npy_codes.specs.Feeders.{progress_code, progress_values, feeder_numbers, taking_for, saying}
use Rattle.npy_codes.proofs.Outcomes.{returns_one}
use Rattle.npy.specs.Calls.{ReadsInC, ReadsHeldInC, ReadsTextInC, WritesInC, ListsInC, StridesInC, PrintsInC, Puts}
use Rattle.npy.specs.Feeding.{TakesInC, StaysInC, NoFeederInC, FeedsAsInC, FeedsInC, EndsAsInC, EndsInC}

-- of a function that is lent room for its values alone
pub call_one : {A : Type 0} (values : A → List ℕ) (o : Outcome A) (room : List ℕ) → OneOutcome {A = ℕ × List ℕ} (λ r. Returns values o room r.0 r.1)
call_one values o room = returns_one values o room

-- of one that is lent other rooms too: its number, these rooms, and the values
abbrev pub Three : Type 0 → Type 0
Three L = (ℕ × L) × List ℕ

module _ {L : Type 0} where
  three_eq : {m n : ℕ} {k l : L} {x y : List ℕ} → m ≡ n → k ≡ l → x ≡ y → ◌≡◌ {A = (ℕ × L) × List ℕ} ((m, k), x) ((n, l), y)
  three_eq hm hk hx = cc

  both_one : {A : Type 0} {values : A → List ℕ} {o : Outcome A} {said : List ℕ} {l : L} (x y : Three L)
      → Returns values o said x.0.0 x.1 → x.0.1 ≡ l → Returns values o said y.0.0 y.1 → y.0.1 ≡ l → x ≡ y
  both_one x y p k q m = three_eq (p.answered ∙ sym q.answered) (k ∙ sym m) (p.after ∙ sym q.after)

pub npy_read_one : (file : List ℕ) (l : Lent) (said : List ℕ) → OneOutcome {A = Three Lent} (λ x. ReadsInC file l said x.0.0 x.0.1 x.1)
npy_read_one file l said x y p q = both_one x y p.answered p.rooms q.answered q.rooms

pub npy_read_held_one : (longer : Bool) (file : List ℕ) (l : Lent) (said : List ℕ) → OneOutcome {A = Three Lent} (λ x. ReadsHeldInC longer file l said x.0.0 x.0.1 x.1)
npy_read_held_one longer file l said x y p q = both_one x y p.answered p.rooms q.answered q.rooms

pub npy_read_text_one : (text : List ℕ) (l : Lent) (said : List ℕ) → OneOutcome {A = Three Lent} (λ x. ReadsTextInC text l said x.0.0 x.0.1 x.1)
npy_read_text_one text l said x y p q = both_one x y p.answered p.rooms q.answered q.rooms

pub npy_write_header_one : (t ns s : List ℕ) (order : ℕ) (room count : List ℕ) → OneOutcome {A = Three (List ℕ)} (λ x. WritesInC t ns s order room count x.0.0 x.0.1 x.1)
npy_write_header_one t ns s order room count x y p q = both_one x y p.answered p.room_after q.answered q.room_after

pub npy_list_one : (version start : ℕ) (t ns s : List ℕ) (order : ℕ) (room count : List ℕ)
    → OneOutcome {A = Three (List ℕ)} (λ x. ListsInC version start t ns s order room count x.0.0 x.0.1 x.1)
npy_list_one version start t ns s order room count x y p q = both_one x y p.answered p.room_after q.answered q.room_after

pub npy_strides_one : (s : List ℕ) (order : ℕ) (room count : List ℕ) → OneOutcome {A = Three (List ℕ)} (λ x. StridesInC s order room count x.0.0 x.0.1 x.1)
npy_strides_one s order room count x y p q = both_one x y p.answered p.room_after q.answered q.room_after

pub npy_type_print_one : (order letter size units : ℕ) (room count : List ℕ)
    → OneOutcome {A = Three (List ℕ)} (λ x. PrintsInC order letter size units room count x.0.0 x.0.1 x.1)
npy_type_print_one order letter size units room count x y p q = both_one x y p.answered p.room_after q.answered q.room_after

-- of the functions that read or write an element
pub puts_one : (put : Outcome (List ℕ)) (room count : List ℕ) → OneOutcome {A = Three (List ℕ)} (λ x. Puts put room count x.0.0 x.0.1 x.1)
puts_one put room count x y p q = both_one x y p.answered p.room_after q.answered q.room_after

-- ---- a feeder: the number that is returned, the feeder's numbers, the text buffer, the three rooms, the values, how many bytes were used
abbrev Six : Type 0
Six = ((((ℕ × List ℕ) × List ℕ) × Lent) × List ℕ) × List ℕ

six_eq : {r r' : ℕ} {n n' t t' : List ℕ} {l l' : Lent} {s s' u u' : List ℕ} → r ≡ r' → n ≡ n' → t ≡ t' → l ≡ l' → s ≡ s' → u ≡ u' → ◌≡◌ {A = Six} (((((r, n), t), l), s), u) (((((r', n'), t'), l'), s'), u')
six_eq a b c d e f = cc

module _ (ns part text : List ℕ) (l : Lent) (said used : List ℕ) where
  -- both calls take the same bytes, so that they say the same of the same feeder
  takes_one : OneOutcome {A = Six} (λ x. TakesInC reading ns part text l said used x.0.0.0.0.0 x.0.0.0.0.1 x.0.0.0.1 x.0.0.1 x.0.1 x.1)
  takes_one x y p q =
      let e = feed_one (taking_for ns) part text l ((p.feeding, x.0.0.0.1), x.0.0.1) ((q.feeding, y.0.0.0.1), y.0.0.1) p.takes q.takes in
      let f : p.feeding ≡ q.feeding = ap (λ z. z.0.0) e in
      six_eq
      (p.returned.answered ∙ ap (λ (z : Feeding). progress_code (progress z.feeder.said)) f ∙ sym q.returned.answered)
      (p.numbers_after ∙ ap (λ (z : Feeding). feeder_numbers z.feeder) f ∙ sym q.numbers_after)
      (ap (λ z. z.0.1) e)
      (ap (λ z. z.1) e)
      (p.returned.after ∙ ap (λ (z : Feeding). progress_values (progress z.feeder.said) said) f ∙ sym q.returned.after)
      (p.used_after ∙ ap (λ (z : Feeding). z.used ∷ []) f ∙ sym q.used_after)

  stays_one : (o : Outcome HeaderInfo) → OneOutcome {A = Six} (λ x. StaysInC o ns text l said used x.0.0.0.0.0 x.0.0.0.0.1 x.0.0.0.1 x.0.0.1 x.0.1 x.1)
  stays_one o x y p q =
      six_eq (p.returned.answered ∙ sym q.returned.answered) (p.same_numbers ∙ sym q.same_numbers) (p.same_text ∙ sym q.same_text) (p.same_rooms ∙ sym q.same_rooms)
      (p.returned.after ∙ sym q.returned.after) (p.used_none ∙ sym q.used_none)

  none_one : (n : ℕ) → OneOutcome {A = Six} (λ x. NoFeederInC n ns text l said used x.0.0.0.0.0 x.0.0.0.0.1 x.0.0.0.1 x.0.0.1 x.0.1 x.1)
  none_one n x y p q =
      six_eq (p.answered ∙ sym q.answered) (p.same_numbers ∙ sym q.same_numbers) (p.same_text ∙ sym q.same_text) (p.same_rooms ∙ sym q.same_rooms) (p.same_said ∙ sym q.same_said)
      (p.same_used ∙ sym q.same_used)

  feeds_one : (p : Outcome Progress) → OneOutcome {A = Six} (λ x. FeedsAsInC reading p ns part text l said used x.0.0.0.0.0 x.0.0.0.0.1 x.0.0.0.1 x.0.0.1 x.0.1 x.1)
  feeds_one (gives need_more) = takes_one
  feeds_one (gives (outcome o)) = stays_one o
  feeds_one (refused n) = none_one n

  pub npy_feed_one : OneOutcome {A = Six} (λ x. FeedsInC ns part text l said used x.0.0.0.0.0 x.0.0.0.0.1 x.0.0.0.1 x.0.0.1 x.0.1 x.1)
  npy_feed_one = feeds_one (saying ns)

module _ (ns said : List ℕ) where
  ends_one : (p : Outcome Progress) → OneOutcome {A = Three (List ℕ)} (λ x. EndsAsInC p ns said x.0.0 x.0.1 x.1)
  ends_one (gives p) x y a b = three_eq (a.returned.answered ∙ sym b.returned.answered) (a.numbers_after ∙ sym b.numbers_after) (a.returned.after ∙ sym b.returned.after)
  ends_one (refused n) x y a b = three_eq (a.answered ∙ sym b.answered) (a.same_numbers ∙ sym b.same_numbers) (a.same_said ∙ sym b.same_said)

  pub npy_feed_end_one : OneOutcome {A = Three (List ℕ)} (λ x. EndsInC ns said x.0.0 x.0.1 x.1)
  npy_feed_end_one = ends_one (saying ns)
