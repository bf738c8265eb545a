-- Document 02, "Wish 10. Headers arrive packet by packet.", of the bytes that were taken so far, however they were cut: "The outcome comes, and the total of bytes used stands, at byte 8 for 1 and 2,
-- at the end of the length field for 4 and 36, and at the header's last byte for all else; before that it says need more and nothing else." and "36, lent buffer shorter than the named text, after 4 and before any text byte is taken". What the whole-slice reader gives is `header_by` of crate record.
use Rattle.std.specs.Prelude.{ℕ, suc, List, [], ◌∷◌, ◌++◌, Bool, false, cond, leb, ltb, length, get_or}
use Rattle.counts.specs.Outcome.{Outcome, gives, refused, then, unless}
use Rattle.record.specs.Prefix.{Version, version_of, text_start, Prefix, data_start_of, prefix}
use Rattle.record.specs.Rooms.{Lent, rooms_of}
use Rattle.record.specs.Header.{Reading, Header, after_prefix_by}

-- what the whole-slice reader gives of these bytes, with 36 "after 4 and before any text byte is taken"
unfoldable pub header_with : Reading → (buffer : ℕ) (bytes : List ℕ) → Lent → Outcome Header
header_with rd buffer bytes l = then (prefix bytes) (λ p. unless (ltb buffer p.text_length) 36 (after_prefix_by rd false bytes p (rooms_of l)))

-- where the text starts, by the version among these first bytes: document 01's "10 or 12"; 12 for another version. A missing byte counts as 0: of under 8 bytes none is a text byte either way
abbrev pub start_by : Outcome Version → ℕ
start_by (gives v) = text_start v
start_by (refused n) = 12

abbrev pub start_in : List ℕ → ℕ
start_in bytes = start_by (version_of (get_or bytes 6 0) (get_or bytes 7 0))

-- the byte with which the outcome comes, by the prefix of these bytes: "at byte 8 for 1 and 2, at the end of the length field for 4 and 36, and at the header's last byte for all else". While the length field is
-- incomplete, the prefix is refused with 3. Before the prefix is complete or refused for good, it is the next byte with which an outcome can come: 8, then the end of the length field
abbrev pub due_by : (buffer : ℕ) (bytes : List ℕ) → Outcome Prefix → ℕ
due_by buffer bytes (gives p) = cond (ltb buffer p.text_length) (text_start p.version) (data_start_of p)
due_by buffer bytes (refused n) = cond (leb n 2) 8 (start_in bytes)

unfoldable pub due : (buffer : ℕ) (bytes : List ℕ) → ℕ
due buffer bytes = due_by buffer bytes (prefix bytes)

-- whether the outcome comes with these bytes, or came before the last of them
unfoldable pub decided : (buffer : ℕ) (bytes : List ℕ) → Bool
decided buffer bytes = leb (due buffer bytes) (length bytes)

-- "the number of bytes used of this part": after the bytes taken so far, one byte of the part after the other until the outcome comes
abbrev pub used : (buffer : ℕ) (bytes part : List ℕ) → ℕ
used buffer bytes [] = 0
used buffer bytes (b ∷ part) = cond (decided buffer bytes) 0 (suc (used buffer (bytes ++ (b ∷ [])) part))
