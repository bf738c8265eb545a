-- What `npy_feed` and `npy_feed_end` owe, for any twenty numbers in place of a feeder. Document 02, "Wish 10. Headers arrive packet by packet."; the feeder of the numbers, and what is said as a number, are
-- Feeders.antt of npy_codes, what a call takes and says is Feeds.antt of header_feed.
use Rattle.std.specs.Prelude.{ℕ, ◌≡◌, List, [], ◌∷◌}
use Rattle.counts.specs.Outcome.{Outcome, gives, refused}
use Rattle.record.specs.Rooms.{Lent}
use Rattle.record.specs.Header.{Reading}
use Rattle.judge.specs.Judged.{reading}
use Rattle.header.specs.Reads.{HeaderInfo}
use Rattle.header_feed.specs.declared.Feeding.{Feeding}
use Rattle.header_feed.specs.Feeds.{Progress, need_more, outcome, progress, ended, TakesBy}
use Rattle.npy_codes.specs.Feeders.{ReturnsProgress, feeder_numbers, head_for, taken_for, saying, ended_numbers}

-- ---- a part
-- numbers that say need more: the bytes are taken, and the numbers become those of the feeder after it
pub record TakesInC (rd : Reading) (numbers part text : List ℕ) (l : Lent) (said used : List ℕ) (r : ℕ) (numbers' text' : List ℕ) (l' : Lent) (said' used' : List ℕ) : Type 0 where
  pub feeding : Feeding
  pub takes : TakesBy rd (head_for numbers) (taken_for numbers) part text l feeding text' l'
  pub numbers_after : numbers' ≡ feeder_numbers feeding.feeder
  pub returned : ReturnsProgress (progress feeding.feeder.said) said r said'
  pub used_after : used' ≡ feeding.used ∷ []

-- numbers that say an outcome: "further feeding returns that outcome and uses no bytes"
pub record StaysInC (o : Outcome HeaderInfo) (numbers text : List ℕ) (l : Lent) (said used : List ℕ) (r : ℕ) (numbers' text' : List ℕ) (l' : Lent) (said' used' : List ℕ) : Type 0 where
  pub returned : ReturnsProgress (outcome o) said r said'
  pub used_none : used' ≡ 0 ∷ []
  pub same_numbers : numbers' ≡ numbers
  pub same_text : text' ≡ text
  pub same_rooms : l' ≡ l

-- numbers that are no feeder's: the refusal's number, and all that was lent is as it was
pub record NoFeederInC (n : ℕ) (numbers text : List ℕ) (l : Lent) (said used : List ℕ) (r : ℕ) (numbers' text' : List ℕ) (l' : Lent) (said' used' : List ℕ) : Type 0 where
  pub answered : r ≡ n
  pub same_numbers : numbers' ≡ numbers
  pub same_text : text' ≡ text
  pub same_rooms : l' ≡ l
  pub same_said : said' ≡ said
  pub same_used : used' ≡ used

abbrev pub FeedsAsInC : Reading → Outcome Progress → (numbers part text : List ℕ) (l : Lent) (said used : List ℕ) (r : ℕ) (numbers' text' : List ℕ) (l' : Lent) (said' used' : List ℕ) → Type 0
FeedsAsInC rd (gives need_more) numbers part text l said used r numbers' text' l' said' used' = TakesInC rd numbers part text l said used r numbers' text' l' said' used'
FeedsAsInC rd (gives (outcome o)) numbers part text l said used r numbers' text' l' said' used' = StaysInC o numbers text l said used r numbers' text' l' said' used'
FeedsAsInC rd (refused n) numbers part text l said used r numbers' text' l' said' used' = NoFeederInC n numbers text l said used r numbers' text' l' said' used'

-- by any reading of texts as literals, and by the literal's own
abbrev pub FeedsByInC : Reading → (numbers part text : List ℕ) (l : Lent) (said used : List ℕ) (r : ℕ) (numbers' text' : List ℕ) (l' : Lent) (said' used' : List ℕ) → Type 0
FeedsByInC rd numbers part text l said used r numbers' text' l' said' used' = FeedsAsInC rd (saying numbers) numbers part text l said used r numbers' text' l' said' used'

abbrev pub FeedsInC : (numbers part text : List ℕ) (l : Lent) (said used : List ℕ) (r : ℕ) (numbers' text' : List ℕ) (l' : Lent) (said' used' : List ℕ) → Type 0
FeedsInC numbers part text l said used r numbers' text' l' said' used' = FeedsByInC reading numbers part text l said used r numbers' text' l' said' used'

-- ---- the end
pub record EndsSayingInC (p : Progress) (numbers said : List ℕ) (r : ℕ) (numbers' said' : List ℕ) : Type 0 where
  pub returned : ReturnsProgress (ended (taken_for numbers) p) said r said'
  pub numbers_after : numbers' ≡ ended_numbers p numbers

pub record EndsNoneInC (n : ℕ) (numbers said : List ℕ) (r : ℕ) (numbers' said' : List ℕ) : Type 0 where
  pub answered : r ≡ n
  pub same_numbers : numbers' ≡ numbers
  pub same_said : said' ≡ said

abbrev pub EndsAsInC : Outcome Progress → (numbers said : List ℕ) (r : ℕ) (numbers' said' : List ℕ) → Type 0
EndsAsInC (gives p) numbers said r numbers' said' = EndsSayingInC p numbers said r numbers' said'
EndsAsInC (refused n) numbers said r numbers' said' = EndsNoneInC n numbers said r numbers' said'

abbrev pub EndsInC : (numbers said : List ℕ) (r : ℕ) (numbers' said' : List ℕ) → Type 0
EndsInC numbers said r numbers' said' = EndsAsInC (saying numbers) numbers said r numbers' said'
