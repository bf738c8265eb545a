-- Document 01, "The record": "A place starts at data start + item size times the sum of index times stride + the offset inside the item", and "The
-- refusal numbers": 24, "place asked under a dtype with `O`"; 25, "file shorter than data start + count times item size"; 26, "index or path of wrong
-- length or not in range, or not ending at a plain type". "Places: the given record's 27, 13, 20, 21, 22, then 24, 25, 26." Products are unbounded
-- here.
use Rattle.std.specs.Prelude.{ℕ, ◌+◌, not, List, ltb}
use Rattle.counts.specs.Outcome.{Outcome, then, each, unless}
use Rattle.type_str.specs.declared.TypeStr.{TypeStr}
use Rattle.dtype.specs.declared.Order.{Order}
use Rattle.dtype.specs.PlainBytes.{plain_bytes}
use Rattle.dtype.specs.Entries.{has_object}
use Rattle.dtype.specs.Shape.{in_range}
use Rattle.dtype.specs.Record.{Record}
use Rattle.dtype.specs.Places.{plain_at, data_bytes, place}
use Rattle.check_record.specs.Checked.{checked_record}
use Rattle.place_area.specs.declared.Run.{Run}

-- the bytes of a plain type, from the first on
abbrev pub run_from : ℕ → TypeStr → Run
run_from first t = record { first = record { 0 = first }; len = record { 0 = plain_bytes t }; kind = t }

-- the run that an index and a path name in a file of this length, the data starting at `start`; or 24, 25, 26
unfoldable pub placed : (file start : ℕ) → Record → (index path : List ℕ) → Outcome Run
placed file start r x p =
    unless (has_object r.dtype) 24
    (unless (ltb file (start + data_bytes r)) 25
    (unless (not (in_range r.shape x)) 26 (each (λ t. run_from (place start r x p) t) (plain_at r.dtype p))))

-- the run under a caller's record; or the refusals of the record, then 24, 25, 26
unfoldable pub place_of : (file start : ℕ) (table names shape : List ℕ) → Order → (index path : List ℕ) → Outcome Run
place_of file start t ns s o x p = then (checked_record t ns s o) (λ r. placed file start r x p)
