-- What a call owes, for any feeder, also one that no feeding gives. Document 02, "Wish 10. Headers arrive packet by packet.": "it says need more, done with the record and the number of bytes used of this part, or
-- refused." The bytes taken so far are those that the feeder's head and the text buffer hold, so that each call is stated of the buffer that it gets.
use Rattle.std.specs.Prelude.{ℕ, ◌≡◌, List, ◌++◌, cond, ltb, length, take, drop, replicate}
use Rattle.counts.specs.Lists.{at_front}
use Rattle.counts.specs.Outcome.{Outcome, gives, refused, each, afterwards}
use Rattle.refusal.specs.Numbers.{number_of}
use Rattle.record.specs.Rooms.{Lent}
use Rattle.record.specs.Header.{Reading, holding_header}
use Rattle.judge.specs.Judged.{reading}
use Rattle.header.specs.Reads.{HeaderInfo, header_info, header_is}
use Rattle.header_feed.specs.Due.{header_with, start_in, decided, used}
use Rattle.header_feed.specs.declared.Fed.{Fed}
use Rattle.header_feed.specs.declared.Feeder.{Feeder}
use Rattle.header_feed.specs.declared.Feeding.{Feeding}

-- "it says need more, done .. or refused"
pub data Progress : Type 0 where
  need_more : Progress
  outcome : Outcome HeaderInfo → Progress

abbrev pub progress : Fed → Progress
progress Fed.More = need_more
progress (Fed.Read h) = outcome (gives (header_is h))
progress (Fed.Refused why) = outcome (refused (number_of why))

-- ---- the bytes taken so far
-- those of the head up to the text, then those of the text buffer
unfoldable pub so_far : (head : List ℕ) (taken : ℕ) (text : List ℕ) → List ℕ
so_far head taken text = take taken (take (start_in head) head ++ text)

-- the text buffer: "it holds the text bytes taken so far, and its remainder is unchanged"
abbrev pub Kept : (bytes text text' : List ℕ) → Type 0
Kept bytes text text' = text' ≡ at_front (drop (start_in bytes) bytes) text

-- ---- a feeder that needs more
-- once these bytes are taken: the outcome if it comes with them, else need more; a record goes to the rooms
pub record After (rd : Reading) (bytes head text : List ℕ) (l : Lent) (f : Feeder) (text' : List ℕ) (l' : Lent) : Type 0 where
  pub says : progress f.said ≡ cond (decided (length text) bytes) (outcome (each header_info (header_with rd (length text) bytes l))) need_more
  pub head_is : f.head ≡ at_front (take (start_in bytes) bytes) head
  pub taken_is : f.taken ≡ length bytes
  pub text_after : Kept bytes text text'
  pub rooms_after : l' ≡ cond (decided (length text) bytes) (afterwards holding_header (header_with rd (length text) bytes l) l) l

-- one call: so many bytes of the part are used, and they are then taken too
pub record TakesBy (rd : Reading) (head : List ℕ) (taken : ℕ) (part text : List ℕ) (l : Lent) (r : Feeding) (text' : List ℕ) (l' : Lent) : Type 0 where
  pub used_is : r.used ≡ used (length text) (so_far head taken text) part
  pub after : After rd (so_far head taken text ++ take r.used part) head text l r.feeder text' l'

abbrev pub TakesPart : (head : List ℕ) (taken : ℕ) (part text : List ℕ) → Lent → Feeding → (text' : List ℕ) → Lent → Type 0
TakesPart = TakesBy reading

-- ---- a feeder that has said its outcome
-- "After an outcome, further feeding returns that outcome and uses no bytes."
pub record Stays (f : Feeder) (text : List ℕ) (l : Lent) (r : Feeding) (text' : List ℕ) (l' : Lent) : Type 0 where
  pub used_none : r.used ≡ 0
  pub same_feeder : r.feeder ≡ f
  pub same_text : text' ≡ text
  pub same_rooms : l' ≡ l

-- ---- any feeder
abbrev pub FeedsAs : Reading → Progress → Feeder → (part text : List ℕ) → Lent → Feeding → (text' : List ℕ) → Lent → Type 0
FeedsAs rd need_more f part text l r text' l' = TakesBy rd f.head f.taken part text l r text' l'
FeedsAs rd (outcome o) f part text l r text' l' = Stays f text l r text' l'

-- by any reading of texts as literals, and by the literal's own
abbrev pub FeedsBy : Reading → Feeder → (part text : List ℕ) → Lent → Feeding → (text' : List ℕ) → Lent → Type 0
FeedsBy rd f = FeedsAs rd (progress f.said) f

abbrev pub Feeds : Feeder → (part text : List ℕ) → Lent → Feeding → (text' : List ℕ) → Lent → Type 0
Feeds f part text l r text' l' = FeedsBy reading f part text l r text' l'

-- ---- the start and the end
-- a feeder that has taken nothing
abbrev pub fresh_feeder : Feeder
fresh_feeder = record { head = replicate 12 0; taken = 0; said = Fed.More }

-- "Ending the input early gives 3, or 1 below 8 bytes."
abbrev pub cut_short : (taken : ℕ) → ℕ
cut_short n = cond (ltb n 8) 1 3

-- what the end says, where so many bytes were taken
abbrev pub ended : (taken : ℕ) → Progress → Progress
ended n need_more = outcome (refused (cut_short n))
ended n (outcome o) = outcome o

pub record Ends (f f' : Feeder) : Type 0 where
  pub says : progress f'.said ≡ ended f.taken (progress f.said)
  pub same_head : f'.head ≡ f.head
  pub same_taken : f'.taken ≡ f.taken
