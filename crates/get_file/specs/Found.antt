-- Document 01, "The record": "A place starts at data start + item size times the sum of index times stride + the offset inside the item". The place of an element in a file whose
-- header is among the bytes that are held: the header's refusals, then those of the place (place/specs/Place.antt). How a header is read from the bytes that are held is Header.antt
-- of record.
use Rattle.std.specs.Prelude.{ℕ, ◌*◌, Bool, List, replicate}
use Rattle.counts.specs.Outcome.{Outcome, then}
use Rattle.dtype.specs.Record.{entry_width}
use Rattle.record.specs.Rooms.{Lent}
use Rattle.header.specs.Reads.{held_into}
use Rattle.place_area.specs.declared.Run.{Run}
use Rattle.place.specs.Place.{placed}

-- rooms that are enough for every record that is accepted: 512 entries, 65,536 name bytes, 32 dimensions
unfoldable pub ample : Lent
ample = record { table = replicate (entry_width * 512) 0; names = replicate 65536 0; shape = replicate 32 0 }

-- the run that an index and a path name in a file of this length
unfoldable pub found_in : (longer : Bool) (held : List ℕ) (file : ℕ) (index path : List ℕ) → Outcome Run
found_in longer held file x p = then (held_into longer held ample) (λ h. placed file h.data_start h.says x p)
