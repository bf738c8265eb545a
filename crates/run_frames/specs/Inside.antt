-- What `run_frames::next` guarantees: a case fits the room that it was read into.
use Rattle.std.specs.Prelude.{ℕ, ◌≤◌, None, Some, Option}

-- a case is no longer than the room
abbrev pub Inside : Option ℕ → ℕ → Type 0
Inside (Some n) room = n ≤ room
Inside None room = Unit {0}
