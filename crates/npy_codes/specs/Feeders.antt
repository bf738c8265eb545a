-- The twenty numbers of a feeder in C (include/npy.h, `npy_feeder`): the twelve bytes of its head, how many bytes were taken, the number of what it says, and where that is a header its six values, else zeros.
-- Document 02, "Wish 10. Headers arrive packet by packet.": "it says need more, done with the record and the number of bytes used of this part, or refused." Any twenty numbers have a meaning: of a head's number the
-- lowest byte counts, the last six count only where a header is said, and 27 is for numbers that say nothing: the fourteenth is none of 0, 255 and the refusals' numbers, or a header's version or order names none.
use Rattle.std.specs.Prelude.{ℕ, ◌%◌, ◌≡◌, List, [], ◌∷◌, ◌++◌, not, cond, eqb, get_or, take}
use Rattle.counts.specs.Outcome.{Outcome, gives, refused, then, each, unless, afterwards}
use Rattle.refusal.specs.Numbers.{is_refusal}
use Rattle.record.specs.Prefix.{version_of}
use Rattle.header.specs.Reads.{HeaderInfo}
use Rattle.header_feed.specs.declared.Fed.{Fed}
use Rattle.header_feed.specs.declared.Feeder.{Feeder}
use Rattle.header_feed.specs.Feeds.{Progress, need_more, outcome, progress, ended}
use Rattle.npy_codes.specs.Codes.{code, order_for, header_values}

-- ---- what is said, as a function returns it
-- 255 for need more, 0 for a header, else the refusal's number
abbrev pub progress_code : Progress → ℕ
progress_code need_more = 255
progress_code (outcome o) = code o

-- the room for the values holds those of the header that is said
abbrev pub progress_values : Progress → (room : List ℕ) → List ℕ
progress_values need_more room = room
progress_values (outcome o) room = afterwards (λ h old. header_values h) o room

pub record ReturnsProgress (p : Progress) (room : List ℕ) (r : ℕ) (room' : List ℕ) : Type 0 where
  pub answered : r ≡ progress_code p
  pub after : room' ≡ progress_values p room

-- ---- the numbers of a feeder
abbrev pub no_values : List ℕ
no_values = 0 ∷ 0 ∷ 0 ∷ 0 ∷ 0 ∷ 0 ∷ []

-- what it says, by seven numbers: 0 for need more, so that twenty zeros are a feeder that has taken nothing; 255 and a header's values; or the refusal's number. (Where it is returned, 0 is a header and 255 need more: `progress_code`.)
abbrev pub saying_numbers : Progress → List ℕ
saying_numbers need_more = 0 ∷ no_values
saying_numbers (outcome (gives h)) = 255 ∷ header_values h
saying_numbers (outcome (refused n)) = n ∷ no_values

abbrev pub feeder_numbers : Feeder → List ℕ
feeder_numbers f = f.head ++ f.taken ∷ saying_numbers (progress f.said)

-- ---- the feeder of any numbers
-- of each number the lowest byte
abbrev pub low_bytes : List ℕ → List ℕ
low_bytes [] = []
low_bytes (n ∷ ns) = n % 256 ∷ low_bytes ns

abbrev pub head_for : (numbers : List ℕ) → List ℕ
head_for ns = low_bytes (take 12 ns)

abbrev pub taken_for : (numbers : List ℕ) → ℕ
taken_for ns = get_or ns 12 0

-- the feeder that needs more, with the head and the count of these numbers
abbrev pub taking_for : (numbers : List ℕ) → Feeder
taking_for ns = record { head = head_for ns; taken = taken_for ns; said = Fed.More }

-- 27 for every number that names nothing
abbrev pub or_no_feeder : {A : Type 0} → Outcome A → Outcome A
or_no_feeder (gives a) = gives a
or_no_feeder (refused n) = refused 27

-- the header whose values are the last six numbers
unfoldable pub header_for : (numbers : List ℕ) → Outcome HeaderInfo
header_for ns =
    or_no_feeder (then (version_of (get_or ns 14 0) 0)
    (λ v. each (λ o. record { version = v; info = record { order = o; rank = get_or ns 16 0; entries = get_or ns 17 0; names = get_or ns 18 0 }; data_start = get_or ns 19 0 }) (order_for (get_or ns 15 0))))

-- what the numbers say
unfoldable pub saying : (numbers : List ℕ) → Outcome Progress
saying ns =
    cond (eqb (get_or ns 13 0) 0) (gives need_more)
    (cond (eqb (get_or ns 13 0) 255) (each (λ h. outcome (gives h)) (header_for ns))
    (unless (not (is_refusal (get_or ns 13 0))) 27 (gives (outcome (refused (get_or ns 13 0))))))

-- the numbers where the input ends
abbrev pub ended_numbers : Progress → (numbers : List ℕ) → List ℕ
ended_numbers need_more ns = take 13 ns ++ saying_numbers (ended (taken_for ns) need_more)
ended_numbers (outcome o) ns = ns
