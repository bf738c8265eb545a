-- Document 01, "String elements": "Room is asked for what is left." "The refusal numbers": 23 "lent .. element room too small", 28 "output room too small", 27
-- "caller's .. type that no reading gives". The room for reading a U element is counted in code points, every other in bytes.
use Rattle.std.specs.Prelude.{ℕ, List, not}
use Rattle.counts.specs.Outcome.{Outcome, then, unless}
use Rattle.counts.specs.Owes.{roomed}
use Rattle.type_str.specs.Text.{is_type}
use Rattle.type_str.specs.declared.TypeStr.{TypeStr}
use Rattle.string_value.specs.Elements.{bytes_in, points_in}
use Rattle.string_value.specs.Runs.{bytes_out, points_out}

-- ---- what each of the four functions puts in the room, or the first refusal that applies

-- an S or V element read as bytes: 27 for no type, 26 for another letter, then 23
unfoldable pub read_bytes : TypeStr → (run room : List ℕ) → Outcome (List ℕ)
read_bytes t run room = unless (not (is_type t)) 27 (then (bytes_in t run) (roomed 23 room))

-- a U element read as code points: 27 for no type, 26 for another letter, 29, then 23
unfoldable pub read_points : TypeStr → (run room : List ℕ) → Outcome (List ℕ)
read_points t run room = unless (not (is_type t)) 27 (then (points_in t run) (roomed 23 room))

-- bytes written as an S or V element: 27 for no type, 26 for another letter, 30, then 28
unfoldable pub write_bytes : TypeStr → (value room : List ℕ) → Outcome (List ℕ)
write_bytes t value room = unless (not (is_type t)) 27 (then (bytes_out t value) (roomed 28 room))

-- code points written as a U element: 27 for no type, 26 for another letter, 29, 30, then 28
unfoldable pub write_points : TypeStr → (value room : List ℕ) → Outcome (List ℕ)
write_points t value room = unless (not (is_type t)) 27 (then (points_out t value) (roomed 28 room))
