-- Rooms that are large enough for a record: document 01, "The refusal numbers", 23 "lent table, name, shape .. room too small".
use Rattle.std.specs.Prelude.{ℕ, ◌≤◌, List, length}
use Rattle.record.specs.Rooms.{Lent}

-- the three rooms l are at least as long as a table, names and a shape
pub record Roomy (t ns s : List ℕ) (l : Lent) : Type 0 where
  pub table_fits : length t ≤ length l.table
  pub names_fit : length ns ≤ length l.names
  pub shape_fits : length s ≤ length l.shape
