-- The bytes of a place, as far as the file reaches.
use Rattle.std.specs.Prelude.{ℕ, List, take, drop}
use Rattle.place_area.specs.declared.Run.{Run}

-- those of a run, in a file
abbrev pub run_bytes : (file : List ℕ) → Run → List ℕ
run_bytes file u = take u.len.0 (drop u.first.0 file)
