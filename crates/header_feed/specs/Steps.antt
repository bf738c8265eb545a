-- What the steps of a call owe each other. `was` is the head before the call, `taken` the bytes taken so far.
use Rattle.std.specs.Prelude.{ℕ, ◌+◌, ◌-◌, ◌<◌, ◌≤◌, min, ◌≡◌, ◌⊎◌, List, ◌++◌, false, length, take, drop}
use Rattle.std.proofs.Math.Seq.{paste}
use Rattle.counts.specs.Lists.{at_front}
use Rattle.counts.specs.Outcome.{Outcome, gives, refused, then, each, afterwards}
use Rattle.record.specs.Prefix.{Version, Prefix, prefix}
use Rattle.record.specs.Rooms.{Lent, rooms_of}
use Rattle.record.specs.Header as header
use Rattle.judge.specs.Judged.{reading}
use Rattle.header.specs.Reads.{header_info}
use Rattle.header_feed.specs.Due.{decided, used, start_in}
use Rattle.header_feed.specs.Feeds.{outcome, progress, After}
use Rattle.header_feed.specs.declared.Fed.{Fed}
use Rattle.header_feed.specs.declared.Feeding.{Feeding}
use Rattle.header_feed.specs.declared.Grows.{Grows}

-- bytes of a part are stored after those that a head has, until it has `upto`; `from` bytes of the part were used before
pub record Grown (head : List ℕ) (had upto : ℕ) (rest : List ℕ) (from : ℕ) (r : Grows) : Type 0 where
  pub head_is : r.head ≡ paste head had rest (min (upto - had) (length rest))
  pub taken_is : r.taken ≡ had + min (upto - had) (length rest)
  pub used_is : r.used ≡ from + min (upto - had) (length rest)

-- these taken bytes are held: in the head, over what it was, and at the front of the text buffer
pub record BytesHeld (was text taken head : List ℕ) (n : ℕ) : Type 0 where
  pub long : length head ≡ 12
  pub count : n ≡ length taken
  pub in_head : head ≡ at_front (take (start_in taken) taken) was
  pub in_text : text ≡ at_front (drop (start_in taken) taken) text

-- the bytes before the text are taken, as far as the part has them: no outcome comes before the last of them, and where the part has more bytes, the prefix is complete or refused
pub record HeadTaken (was text taken part : List ℕ) (r : Grows) : Type 0 where
  pub within : r.used ≤ length part
  pub held : BytesHeld was text (taken ++ take r.used part) r.head r.taken
  pub undecided : (buffer j : ℕ) → j < r.used → decided buffer (taken ++ take j part) ≡ false
  pub complete : (r.used ≡ length part) ⊎ ((8 ≤ r.taken) × (prefix (taken ++ take r.used part) ≡ refused 3 → ⊥))

abbrev pub TakesHead : (head : List ℕ) (had : ℕ) (part : List ℕ) → Grows → Type 0
TakesHead head had part r = (was text taken : List ℕ) → BytesHeld was text taken head had → HeadTaken was text taken part r

-- the bytes that are held have a complete prefix
abbrev pub PrefixWhole : (head : List ℕ) → Prefix → (got : ℕ) → (text : List ℕ) → Type 0
PrefixWhole head p got text = (was : List ℕ) × (taken : List ℕ) × BytesHeld was text taken head got × (prefix taken ≡ gives p)

-- what is owed after a complete prefix
pub record RestTaken (was text taken rest : List ℕ) (from : ℕ) (l : Lent) (r : Feeding) (text' : List ℕ) (l' : Lent) : Type 0 where
  pub used_is : r.used ≡ from + used (length text) taken rest
  pub after : After reading (taken ++ take (used (length text) taken rest) rest) was text l r.feeder text' l'

abbrev pub TakesText : (head : List ℕ) → Prefix → (got : ℕ) (rest : List ℕ) (from : ℕ) (text : List ℕ) → Lent → Feeding → (text' : List ℕ) → Lent → Type 0
TakesText head p got rest from text l r text' l' =
    (was taken : List ℕ) → BytesHeld was text taken head got → prefix taken ≡ gives p → RestTaken was text taken rest from l r text' l'

-- the header whose text is complete, by its version
abbrev pub whole_text : (v : Version) (text : List ℕ) → Lent → Outcome header.Header
whole_text v text l = then (header.record_in reading text) (header.stored (rooms_of l) (record { version = v; text_length = length text }))

pub record ReadsWhole (v : Version) (text : List ℕ) (l : Lent) (r : Fed) (l' : Lent) : Type 0 where
  pub says : progress r ≡ outcome (each header_info (whole_text v text l))
  pub after : l' ≡ afterwards header.holding_header (whole_text v text l) l
