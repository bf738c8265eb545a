-- Document 02, "Wish 10. Headers arrive packet by packet.": "However the input was cut, if each call gets the buffer as the last left it, outcome and record equal those of the whole-slice reader, 36 excepted. The
-- outcome comes, and the total of bytes used stands, at byte 8 for 1 and 2, at the end of the length field for 4 and 36, and at the header's last byte for all else; before that it says need more and nothing else.
-- Ending the input early gives 3, or 1 below 8 bytes. After an outcome, further feeding returns that outcome and uses no bytes." Stated of the calls themselves, by their predicates. The byte with which the outcome comes is
-- `due` (header_feed/specs/Due.antt).
use Rattle.refusal.specs.declared.Refusal.{Refusal}
use Rattle.std.specs.Prelude.{ℕ, ◌+◌, ◌*◌, ◌<◌, ◌≤◌, min, ◌≡◌, true, ◌⊎◌, List, [], ◌∷◌, ◌++◌, length, take, replicate, Result}
use Rattle.counts.specs.Outcome.{Outcome, gives, refused}
use Rattle.refusal.specs.Numbers.{is_refusal}
use Rattle.record.specs.Prefix.{Prefix, prefix}
use Rattle.record.specs.Rooms.{Lent}
use Rattle.header.specs.declared.Header.{Header}
use Rattle.header.specs.Reads.{HeaderInfo, header_answer}
use Rattle.header_feed.specs.declared.Fed.{Fed}
use Rattle.header_feed.specs.declared.Feeder.{Feeder}
use Rattle.header_feed.specs.declared.Feeding.{Feeding}
use Rattle.header_feed.specs.Due.{due}
use Rattle.header_feed.specs.Feeds.{Progress, need_more, outcome, progress, cut_short, Kept, Stays}
use Rattle.npy_codes.specs.Codes.{header_values}
use Rattle.npy_codes.specs.Feeders.{ReturnsProgress, saying}
use Rattle.npy.specs.Feeding.{StaysInC}
use Rattle.claims.specs.Beyond.{SameRest}
use Rattle.claims.specs.Functions.{Read, FeedStart, Feed, FeedEnd}
use Rattle.claims.specs.InC.{NpyRead, NpyFeed, NpyFeedEnd}

-- the parts of an input, one after the other
abbrev pub joined : List (List ℕ) → List ℕ
joined [] = []
joined (part ∷ parts) = part ++ joined parts

-- calls of `feed`, "if each call gets the buffer as the last left it", and the feeder and the rooms too; how many bytes they used in all
pub data Run : Feeder → (text : List ℕ) → Lent → List (List ℕ) → Feeder → (text' : List ℕ) → Lent → (total : ℕ) → Type 0 where
  no_call : {f : Feeder} {text : List ℕ} {l : Lent} → Run f text l [] f text l 0
  call : {f : Feeder} {text : List ℕ} {l : Lent} {part : List ℕ} {parts : List (List ℕ)} (x : Feeding) (text₁ : List ℕ) (l₁ : Lent) {f' : Feeder} {text' : List ℕ} {l' : Lent} (n : ℕ)
      → Feed f part text l x text₁ l₁ → Run x.feeder text₁ l₁ parts f' text' l' n → Run f text l (part ∷ parts) f' text' l' (x.used + n)

-- "lent buffer shorter than the named text", and that it is not
abbrev pub TooShort : (buffer : ℕ) (file : List ℕ) → Type 0
TooShort buffer file = (p : Prefix) × (prefix file ≡ gives p) × (buffer < p.text_length)

abbrev pub LongEnough : (buffer : ℕ) (file : List ℕ) → Type 0
LongEnough buffer file = (p : Prefix) → prefix file ≡ gives p → p.text_length ≤ buffer

-- the feeder, the buffer and the rooms after parts that are this file, where the whole-slice reader has returned x for the file, and its rooms then held m
pub record Cut (file text : List ℕ) (l : Lent) (x : Result Header Refusal) (m : Lent) (f : Feeder) (text' : List ℕ) (l' : Lent) (total : ℕ) : Type 0 where
  -- "The outcome comes, and the total of bytes used stands, at" the byte that is due; an input that ends before it is used whole
  pub used_in_all : total ≡ min (due (length text) file) (length file)
  pub kept : Kept (take total file) text text'
  -- "before that it says need more and nothing else"
  pub says_more : length file < due (length text) file → (progress f.said ≡ need_more) × (l' ≡ l)
  -- "Ending the input early gives 3, or 1 below 8 bytes", as the whole-slice reader returns
  pub ends_early : length file < due (length text) file → (f' : Feeder) → FeedEnd f f' → (progress f'.said ≡ outcome (refused (cut_short (length file)))) × (header_answer x ≡ refused (cut_short (length file)))
  -- "36, lent buffer shorter than the named text, after 4 and before any text byte is taken"
  pub says_36 : TooShort (length text) file → (progress f.said ≡ outcome (refused 36)) × (l' ≡ l)
  -- "outcome and record equal those of the whole-slice reader"
  pub says_same : due (length text) file ≤ length file → LongEnough (length text) file → (progress f.said ≡ outcome (header_answer x)) × (l' ≡ m)
  -- the data of a header that is read starts after the bytes that were used
  pub used_to_data : (h : HeaderInfo) → progress f.said ≡ outcome (gives h) → total ≡ h.data_start

-- the claim
abbrev pub HoweverCut : Type 0
HoweverCut =
    (parts : List (List ℕ)) (text : List ℕ) (l : Lent) (f₀ f : Feeder) (text' : List ℕ) (l' : Lent) (total : ℕ) → FeedStart f₀ → Run f₀ text l parts f text' l' total
    → (x : Result Header Refusal) (m : Lent) → Read (joined parts) l x m → Cut (joined parts) text l x m f text' l' total

-- "before that it says need more and nothing else": calls with the first parts of an input, before the byte that is due for the whole of it
abbrev pub MoreBefore : Type 0
MoreBefore =
    (parts : List (List ℕ)) (later text : List ℕ) (l : Lent) (f₀ f : Feeder) (text' : List ℕ) (l' : Lent) (total : ℕ) → FeedStart f₀ → Run f₀ text l parts f text' l' total
    → length (joined parts) < due (length text) (joined parts ++ later) → (progress f.said ≡ need_more) × (total ≡ length (joined parts)) × (l' ≡ l)

-- ---- after an outcome, of any feeder
pub record AfterOutcome : Type 0 where
  pub feed_again : (f : Feeder) (part text : List ℕ) (l : Lent) (x : Feeding) (text' : List ℕ) (l' : Lent) (o : Outcome HeaderInfo) → progress f.said ≡ outcome o → Feed f part text l x text' l'
      → Stays f text l x text' l'
  pub end_again : (f f' : Feeder) (o : Outcome HeaderInfo) → progress f.said ≡ outcome o → FeedEnd f f' → f' ≡ f
  -- the end is an outcome
  pub end_says : (f f' : Feeder) → FeedEnd f f' → progress f'.said ≡ need_more → ⊥

-- ---- work, in the bytes that calls report: those used, which are copied, and at most those taken in the call that brings the outcome, which alone judges the text. Beside these each call, also one with no bytes, does a
-- bounded amount: it reads the at most 12 bytes before the text at most twice
abbrev pub judged : (before after : Progress) (taken : ℕ) → ℕ
judged need_more need_more n = 0
judged need_more (outcome o) n = n
judged (outcome o) p n = 0

abbrev pub work : {f : Feeder} {text : List ℕ} {l : Lent} {parts : List (List ℕ)} {f' : Feeder} {text' : List ℕ} {l' : Lent} {total : ℕ} → Run f text l parts f' text' l' total → ℕ
work no_call = 0
work {f} (call x text₁ l₁ n c run) = x.used + judged (progress f.said) (progress x.feeder.said) x.feeder.taken + work run

-- the claim: however an input is cut, twice its bytes at most
abbrev pub WorkLinear : Type 0
WorkLinear =
    (parts : List (List ℕ)) (text : List ℕ) (l : Lent) (f₀ f : Feeder) (text' : List ℕ) (l' : Lent) (total : ℕ) → FeedStart f₀ → (run : Run f₀ text l parts f text' l' total)
    → (work run ≤ 2 * total) × (total ≤ length (joined parts))

-- ---- refusals: "The text buffer is excepted from document 01's rule for refusals"; the table, the names and the shape are not, and need more leaves them too
abbrev pub RoomsUnchanged : Type 0
RoomsUnchanged = (f : Feeder) (part text : List ℕ) (l : Lent) (x : Feeding) (text' : List ℕ) (l' : Lent) → Feed f part text l x text' l'
    → ((k : ℕ) → progress x.feeder.said ≡ outcome (refused k) → l' ≡ l) × (progress x.feeder.said ≡ need_more → l' ≡ l)

-- "On success, room beyond what was needed is unchanged."
abbrev pub RestKept : Type 0
RestKept = (f : Feeder) (part text : List ℕ) (l : Lent) (x : Feeding) (text' : List ℕ) (l' : Lent) (h : Header) → Feed f part text l x text' l' → progress f.said ≡ need_more → x.feeder.said ≡ Fed.Read h
    → SameRest h.info l l'

-- ---- the same in C
-- one call of `npy_feed` or more, each with the feeder's numbers, the text buffer and the rooms as the last left them; what the last returned, and how many bytes all used
pub data RunInC : (numbers text : List ℕ) → Lent → List (List ℕ) → (said : List ℕ) (r : ℕ) (numbers' text' : List ℕ) → Lent → (said' : List ℕ) (total : ℕ) → Type 0 where
  last_call : {numbers part text : List ℕ} {l : Lent} {said used : List ℕ} {r : ℕ} {numbers' text' : List ℕ} {l' : Lent} {said' : List ℕ} (n : ℕ)
      → NpyFeed numbers part text l said used r numbers' text' l' said' (n ∷ []) → RunInC numbers text l (part ∷ []) said r numbers' text' l' said' n
  call_before : {numbers part text : List ℕ} {l : Lent} {parts : List (List ℕ)} {said : List ℕ} {r : ℕ} {numbers' text' : List ℕ} {l' : Lent} {said' : List ℕ}
      (said₁ used₁ : List ℕ) (r₁ : ℕ) (numbers₁ text₁ : List ℕ) (l₁ : Lent) (said₂ : List ℕ) (n m : ℕ)
      → NpyFeed numbers part text l said₁ used₁ r₁ numbers₁ text₁ l₁ said₂ (n ∷ []) → RunInC numbers₁ text₁ l₁ parts said r numbers' text' l' said' m → RunInC numbers text l (part ∷ parts) said r numbers' text' l' said' (n + m)

-- as Cut, where `npy_read` has returned r₀ for the whole file, and its rooms and values then held m and said₀
pub record CutInC (file text : List ℕ) (l : Lent) (said : List ℕ) (r₀ : ℕ) (m : Lent) (said₀ : List ℕ) (r : ℕ) (numbers' text' : List ℕ) (l' : Lent) (said' : List ℕ) (total : ℕ) : Type 0 where
  pub used_in_all : total ≡ min (due (length text) file) (length file)
  pub kept : Kept (take total file) text text'
  pub says_more : length file < due (length text) file → (r ≡ 255) × (l' ≡ l) × (said' ≡ said)
  pub ends_early : length file < due (length text) file → (said₁ : List ℕ) (q : ℕ) (numbers'' said₂ : List ℕ) → NpyFeedEnd numbers' said₁ q numbers'' said₂ → (q ≡ cut_short (length file)) × (r₀ ≡ cut_short (length file)) × (said₂ ≡ said₁)
  pub says_36 : TooShort (length text) file → (r ≡ 36) × (l' ≡ l) × (said' ≡ said)
  pub says_same : due (length text) file ≤ length file → LongEnough (length text) file → (r ≡ r₀) × (l' ≡ m) × (said' ≡ said₀)
  pub used_to_data : (h : HeaderInfo) → r ≡ 0 → said' ≡ header_values h → total ≡ h.data_start

-- the claim, from twenty zeros on
abbrev pub HoweverCutInC : Type 0
HoweverCutInC =
    (parts : List (List ℕ)) (text : List ℕ) (l : Lent) (said : List ℕ) (r : ℕ) (numbers' text' : List ℕ) (l' : Lent) (said' : List ℕ) (total : ℕ) → RunInC (replicate 20 0) text l parts said r numbers' text' l' said' total
    → (r₀ : ℕ) (m : Lent) (said₀ : List ℕ) → NpyRead (joined parts) l said r₀ m said₀ → CutInC (joined parts) text l said r₀ m said₀ r numbers' text' l' said' total

-- as MoreBefore: 255, and nothing else
abbrev pub MoreBeforeInC : Type 0
MoreBeforeInC =
    (parts : List (List ℕ)) (later text : List ℕ) (l : Lent) (said : List ℕ) (r : ℕ) (numbers' text' : List ℕ) (l' : Lent) (said' : List ℕ) (total : ℕ) → RunInC (replicate 20 0) text l parts said r numbers' text' l' said' total
    → length (joined parts) < due (length text) (joined parts ++ later) → (r ≡ 255) × (total ≡ length (joined parts)) × (l' ≡ l) × (said' ≡ said)

-- after an outcome, of any twenty numbers, and that the numbers after a call say what the call returned
pub record AfterOutcomeInC : Type 0 where
  pub feed_again : (numbers part text : List ℕ) (l : Lent) (said used : List ℕ) (r : ℕ) (numbers' text' : List ℕ) (l' : Lent) (said' used' : List ℕ) (o : Outcome HeaderInfo) → saying numbers ≡ gives (outcome o)
      → NpyFeed numbers part text l said used r numbers' text' l' said' used' → StaysInC o numbers text l said used r numbers' text' l' said' used'
  pub end_again : (numbers said : List ℕ) (r : ℕ) (numbers' said' : List ℕ) (o : Outcome HeaderInfo) → saying numbers ≡ gives (outcome o) → NpyFeedEnd numbers said r numbers' said' → ReturnsProgress (outcome o) said r said' × (numbers' ≡ numbers)
  pub feed_says : (numbers part text : List ℕ) (l : Lent) (said used : List ℕ) (r : ℕ) (numbers' text' : List ℕ) (l' : Lent) (said' used' : List ℕ) (p : Progress) → length numbers ≡ 20 → saying numbers ≡ gives p
      → NpyFeed numbers part text l said used r numbers' text' l' said' used' → (q : Progress) × (saying numbers' ≡ gives q) × ReturnsProgress q said r said'
  -- the end is an outcome
  pub end_says : (numbers said : List ℕ) (r : ℕ) (numbers' said' : List ℕ) (p : Progress) → length numbers ≡ 20 → saying numbers ≡ gives p → NpyFeedEnd numbers said r numbers' said'
      → (o : Outcome HeaderInfo) × (saying numbers' ≡ gives (outcome o)) × ReturnsProgress (outcome o) said r said'
  pub end_at_once : (said : List ℕ) (r : ℕ) (numbers' said' : List ℕ) → NpyFeedEnd (replicate 20 0) said r numbers' said' → (r ≡ 1) × (said' ≡ said)

-- what any twenty numbers get: 0, 255 for need more or a refusal's number, and where it is not 0, the table, the names, the shape and the values are as they were
pub record FeedCodes : Type 0 where
  pub npy_feed : (numbers part text : List ℕ) (l : Lent) (said used : List ℕ) (r : ℕ) (numbers' text' : List ℕ) (l' : Lent) (said' used' : List ℕ) → NpyFeed numbers part text l said used r numbers' text' l' said' used'
      → ((r ≡ 0) ⊎ ((r ≡ 255) ⊎ (is_refusal r ≡ true))) × ((r ≡ 0 → ⊥) → (l' ≡ l) × (said' ≡ said))
  pub npy_feed_end : (numbers said : List ℕ) (r : ℕ) (numbers' said' : List ℕ) → NpyFeedEnd numbers said r numbers' said' → ((r ≡ 0) ⊎ (is_refusal r ≡ true)) × ((r ≡ 0 → ⊥) → said' ≡ said)
  -- 27, and everything as it was
  pub no_feeder : (numbers part text : List ℕ) (l : Lent) (said used : List ℕ) (r : ℕ) (numbers' text' : List ℕ) (l' : Lent) (said' used' : List ℕ) (n : ℕ) → saying numbers ≡ refused n → NpyFeed numbers part text l said used r numbers' text' l' said' used'
      → (r ≡ 27) × (numbers' ≡ numbers) × (text' ≡ text) × (l' ≡ l) × (said' ≡ said) × (used' ≡ used)
  pub no_feeder_end : (numbers said : List ℕ) (r : ℕ) (numbers' said' : List ℕ) (n : ℕ) → saying numbers ≡ refused n → NpyFeedEnd numbers said r numbers' said' → (r ≡ 27) × (numbers' ≡ numbers) × (said' ≡ said)
