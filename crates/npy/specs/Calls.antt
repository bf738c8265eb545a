-- What each function of the C interface owes: the definitions of the crates below, as 0 and values or as the refusal's number alone. An order, a version and a
-- type are given by numbers; a number that names none is refused before anything else, by 27 or, a version, by 2. Document 01, "The refusal numbers": "Each returns
-- its number only; every lent buffer stays unchanged. On success, room beyond what was needed is unchanged."
use Rattle.std.specs.Prelude.{ℕ, ◌≡◌, Bool, false, List, length}
use Rattle.counts.specs.Outcome.{Outcome, then, each, afterwards}
use Rattle.counts.specs.Lists.{at_front}
use Rattle.type_str.specs.Text.{type_printed}
use Rattle.dtype.specs.Shape.{strides}
use Rattle.shape.specs.Count.{strides_count}
use Rattle.record.specs.Rooms.{Lent, holding}
use Rattle.record.specs.Prefix.{Version, version_of}
use Rattle.record.specs.Header.{Reading, text_by, held_by, holding_header}
use Rattle.list_record.specs.Answer.{listed}
use Rattle.judge.specs.Judged.{reading}
use Rattle.header.specs.Reads as header
use Rattle.write.specs.Writes.{header_written}
use Rattle.npy_codes.specs.Codes.{Returns, one_number, order_for, type_for, text_values, header_values}

-- ---- reading: the three lent rooms, and what is said beside them; by any reading of texts as literals, and by the literal's own
pub record ReadsByInC (rd : Reading) (longer : Bool) (file : List ℕ) (l : Lent) (said : List ℕ) (r : ℕ) (l' : Lent) (said' : List ℕ) : Type 0 where
  pub answered : Returns header_values (each header.header_info (held_by rd longer file l)) said r said'
  pub rooms : l' ≡ afterwards holding_header (held_by rd longer file l) l

-- .. of a file of which only the first bytes are held if it is longer
abbrev pub ReadsHeldInC : (longer : Bool) (file : List ℕ) (l : Lent) (said : List ℕ) (r : ℕ) (l' : Lent) (said' : List ℕ) → Type 0
ReadsHeldInC longer file l said r l' said' = ReadsByInC reading longer file l said r l' said'

abbrev pub ReadsInC : (file : List ℕ) (l : Lent) (said : List ℕ) (r : ℕ) (l' : Lent) (said' : List ℕ) → Type 0
ReadsInC file l said r l' said' = ReadsByInC reading false file l said r l' said'

pub record ReadsTextByInC (rd : Reading) (text : List ℕ) (l : Lent) (said : List ℕ) (r : ℕ) (l' : Lent) (said' : List ℕ) : Type 0 where
  pub answered : Returns text_values (each header.info_of (text_by rd text l)) said r said'
  pub rooms : l' ≡ afterwards holding (text_by rd text l) l

abbrev pub ReadsTextInC : (text : List ℕ) (l : Lent) (said : List ℕ) (r : ℕ) (l' : Lent) (said' : List ℕ) → Type 0
ReadsTextInC text l said r l' said' = ReadsTextByInC reading text l said r l' said'

-- ---- writing to a lent room: how many were written, and the room afterwards, where `put` is what goes to its front
pub record Puts (put : Outcome (List ℕ)) (room count : List ℕ) (r : ℕ) (room' count' : List ℕ) : Type 0 where
  pub answered : Returns one_number (each length put) count r count'
  pub room_after : room' ≡ afterwards at_front put room

abbrev pub WritesInC : (t ns s : List ℕ) (order : ℕ) (room count : List ℕ) (r : ℕ) (room' count' : List ℕ) → Type 0
WritesInC t ns s order room count r room' count' = Puts (then (order_for order) (λ o. header_written t ns s o room)) room count r room' count'

-- a listing as a version, and as the version that a number names
abbrev pub ListsAsInC : (v : Version) (start : ℕ) (t ns s : List ℕ) (order : ℕ) (room count : List ℕ) (r : ℕ) (room' count' : List ℕ) → Type 0
ListsAsInC v start t ns s order room count r room' count' = Puts (then (order_for order) (λ o. listed v start t ns s o room)) room count r room' count'

abbrev pub ListsInC : (version start : ℕ) (t ns s : List ℕ) (order : ℕ) (room count : List ℕ) (r : ℕ) (room' count' : List ℕ) → Type 0
ListsInC version start t ns s order room count r room' count' =
    Puts (then (version_of version 0) (λ v. then (order_for order) (λ o. listed v start t ns s o room))) room count r room' count'

abbrev pub PrintsInC : (order letter size units : ℕ) (room count : List ℕ) (r : ℕ) (room' count' : List ℕ) → Type 0
PrintsInC order letter size units room count r room' count' = Puts (then (type_for order letter size units) (λ t. type_printed t room)) room count r room' count'

-- the strides go to the room, and the item count is returned
pub record StridesInC (s : List ℕ) (order : ℕ) (room count : List ℕ) (r : ℕ) (room' count' : List ℕ) : Type 0 where
  pub answered : Returns one_number (then (order_for order) (λ o. strides_count o s (length room))) count r count'
  pub room_after : room' ≡ afterwards (λ o. afterwards (λ n. at_front (strides o s)) (strides_count o s (length room))) (order_for order) room
