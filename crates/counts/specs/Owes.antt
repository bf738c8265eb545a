-- Document 01, "The refusal numbers": "Each returns its number only; every lent buffer stays unchanged. On success, room beyond what was needed is unchanged." What a function
-- owes that puts content to the front of lent room, where `put` is the content or the first refusal that applies.
use Rattle.std.specs.Prelude.{ℕ, ◌≡◌, List, ltb, length}
use Rattle.counts.specs.Outcome.{Outcome, gives, each, unless, afterwards}
use Rattle.counts.specs.Lists.{at_front}

-- the content if it fits the room, else refusal n
unfoldable pub roomed : ℕ → (room content : List ℕ) → Outcome (List ℕ)
roomed n room content = unless (ltb (length room) (length content)) n (gives content)

-- the answer is the content's length, and the room afterwards has the content at its front
pub record Owes (put : Outcome (List ℕ)) (room : List ℕ) (answer : Outcome ℕ) (room' : List ℕ) : Type 0 where
  pub answered : answer ≡ each length put
  pub room_after : room' ≡ afterwards at_front put room
