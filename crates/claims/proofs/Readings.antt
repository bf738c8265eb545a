-- The contracts of the readers are stated with the literal's own reading, their predicates (specs/Functions.antt, specs/InC.antt) with every reading that keeps the promise.
-- For each text one outcome keeps it, so a contract gives its predicate.
use Rattle.refusal.specs.Answers.{answer}
use Rattle.header.specs.declared.RecordInfo.{RecordInfo}
use Rattle.place_area.specs.declared.Run.{Run}
use Rattle.header.specs.declared.Header.{Header}
use Rattle.refusal.specs.declared.Refusal.{Refusal}
use Rattle.std.specs.Prelude.{Result}
use Prim.Native.Nat.{ℕ}
use mathlib.Core.Path.{◌≡◌, sym, ap, ◌∙◌}
use mathlib.Core.Bool.{Bool, false}
use mathlib.Core.List.{List}
use lib.Dec.{ltb}
use lib.ListN.{length, take}
use Rattle.counts.specs.declared.Bytes.{Bytes}
use Rattle.counts.specs.Lists.{at_front, AllBytes}
use Rattle.counts.specs.Outcome.{Outcome, gives, refused, each, afterwards, then}
use Rattle.dtype.specs.Record.{Record}
use Rattle.record.specs.Rooms.{Lent, rooms_of, holding}
use Rattle.record.specs.Header as header
use Rattle.record.proofs.OneHeader.{header_same, text_same as records_same}
use Rattle.judge.specs.Judged.{reading}
use Rattle.judge.proofs.Top.{reading_keeps}
use Rattle.header.specs.Reads as reads
use Rattle.list_file.specs.Report.{held_most, fresh, text_for, report_of, Reports, WritesText}
use Rattle.list_file.specs.Enough.{WritesReport}
use Rattle.header_feed.specs.declared.Feeder.{Feeder}
use Rattle.header_feed.specs.declared.Feeding.{Feeding}
use Rattle.header_feed.specs.Feeds.{Progress, need_more, outcome, Feeds}
use Rattle.header_feed.proofs.Readings.{takes_any, feeds_any}
use Rattle.npy_codes.specs.Feeders.{head_for, taken_for, saying}
use Rattle.npy_codes.proofs.Then.{returns_same}
use Rattle.npy.specs.Calls as npy
use Rattle.npy.specs.Feeding.{FeedsAsInC, FeedsByInC, FeedsInC}
use Rattle.place.specs.Place.{placed}
use Rattle.get_file.specs.Found.{ample, found_in}
use Rattle.claims.specs.Functions.{Read, ReadHeld, ReadText, report_by, Report, ReportWhole, Find, Feed}
use Rattle.claims.specs.InC.{NpyRead, NpyReadHeld, NpyReadText, NpyFeed}

-- ---- the definitions with another reading
module _ (other : header.Reading) (keeps : header.Keeps other) where
  pub text_same : (text : List ℕ) (l : Lent) → header.text_by reading text l ≡ header.text_by other text l
  text_same text l = records_same reading other reading_keeps keeps text l

  pub held_same : (longer : Bool) (file : List ℕ) (l : Lent) → reads.held_into longer file l ≡ header.held_by other longer file l
  held_same longer file l = header_same reading other reading_keeps keeps longer file (rooms_of l)

-- ---- from a contract to its predicate
pub read_held_tied : (longer : Bool) (file : List ℕ) (l : Lent) (x : Result Header Refusal) (l' : Lent) → reads.ReadsHeld longer file l x l' → ReadHeld longer file l x l'
read_held_tied longer file l x l' h =
    record {
      answered = λ other keeps. h.answered ∙ ap (each reads.header_info) (held_same other keeps longer file l);
      after = λ other keeps. h.after ∙ ap (λ (o : Outcome header.Header). afterwards header.holding_header o l) (held_same other keeps longer file l);
    }

pub read_tied : (file : List ℕ) (l : Lent) (x : Result Header Refusal) (l' : Lent) → reads.Reads file l x l' → Read file l x l'
read_tied file l x l' h = read_held_tied false file l x l' h

pub read_text_tied : (text : List ℕ) (l : Lent) (x : Result RecordInfo Refusal) (l' : Lent) → reads.ReadsText text l x l' → ReadText text l x l'
read_text_tied text l x l' h =
    record {
      answered = λ other keeps. h.answered ∙ ap (each reads.info_of) (text_same other keeps text l);
      after = λ other keeps. h.after ∙ ap (λ (o : Outcome Record). afterwards holding o l) (text_same other keeps text l);
    }

pub report_same : (other : header.Reading) → header.Keeps other → (file : List ℕ)
    → report_of file ≡ report_by other file
unfolding report_of
report_same other keeps file = ap text_for (held_same other keeps (ltb held_most (length file)) (take held_most file) fresh)

pub text_moved : {text new out : List ℕ} (x : Result Bytes Refusal) {out' : List ℕ} → text ≡ new → WritesText text out x out' → WritesText new out x out'
text_moved x e h = rw (sym e) h

pub report_tied : (file out : List ℕ) (x : Result Bytes Refusal) (out' : List ℕ) → Reports file out x out' → Report file out x out'
report_tied file out x out' h = λ other keeps. text_moved x (report_same other keeps file) h

pub report_whole_tied : (file out : List ℕ) (n : Bytes) (out' : List ℕ) → WritesReport file out n out' → ReportWhole file out n out'
report_whole_tied file out n out' h =
    record {
      answered = λ other keeps. h.answered ∙ ap length (report_same other keeps file);
      after = λ other keeps. h.after ∙ ap (λ (text : List ℕ). at_front text out) (report_same other keeps file);
    }

-- the place that is found, by the literal's own reading and by any other
pub find_tied : (longer : Bool) (held : List ℕ) (file : ℕ) (x p : List ℕ) (y : Result Run Refusal) → answer y ≡ found_in longer held file x p → Find longer held file x p y
unfolding found_in
find_tied longer held file x p y h = λ other keeps. h ∙ ap (λ (o : Outcome header.Header). then o (λ a. placed file a.data_start a.says x p)) (held_same other keeps longer held ample)

pub find_moved : (longer : Bool) (held : List ℕ) (file : ℕ) (x p : List ℕ) (y : Result Run Refusal) → answer y ≡ then (header.held_by reading longer held ample) (λ h. placed file h.data_start h.says x p)
    → answer y ≡ found_in longer held file x p
unfolding found_in
find_moved longer held file x p y h = h

-- ---- the same in C
pub npy_read_held_tied : (longer : Bool) (file : List ℕ) (l : Lent) (said : List ℕ) (r : ℕ) (l' : Lent) (said' : List ℕ)
    → npy.ReadsHeldInC longer file l said r l' said' → NpyReadHeld longer file l said r l' said'
npy_read_held_tied longer file l said r l' said' h =
    record {
      answered = λ other keeps. returns_same (ap (each reads.header_info) (held_same other keeps longer file l)) h.answered;
      after = λ other keeps. h.rooms ∙ ap (λ (o : Outcome header.Header). afterwards header.holding_header o l) (held_same other keeps longer file l);
    }

pub npy_read_tied : (file : List ℕ) (l : Lent) (said : List ℕ) (r : ℕ) (l' : Lent) (said' : List ℕ) → npy.ReadsInC file l said r l' said' → NpyRead file l said r l' said'
npy_read_tied file l said r l' said' h = npy_read_held_tied false file l said r l' said' h

pub npy_read_text_tied : (text : List ℕ) (l : Lent) (said : List ℕ) (r : ℕ) (l' : Lent) (said' : List ℕ)
    → npy.ReadsTextInC text l said r l' said' → NpyReadText text l said r l' said'
npy_read_text_tied text l said r l' said' h =
    record {
      answered = λ other keeps. returns_same (ap (each reads.info_of) (text_same other keeps text l)) h.answered;
      after = λ other keeps. h.rooms ∙ ap (λ (o : Outcome Record). afterwards holding o l) (text_same other keeps text l);
    }

-- ---- a header that arrives part by part
pub feed_tied : (f : Feeder) (part text : List ℕ) (l : Lent) (x : Feeding) (text' : List ℕ) (l' : Lent) → Feeds f part text l x text' l' → Feed f part text l x text' l'
feed_tied f part text l x text' l' h = λ other keeps. feeds_any other keeps f part text l x text' l' h

feeds_in_c_any : (other : header.Reading) → header.Keeps other → (ns part text : List ℕ) (l : Lent) (said used : List ℕ) (r : ℕ) (ns' text' : List ℕ) (l' : Lent) (said' used' : List ℕ)
    → FeedsInC ns part text l said used r ns' text' l' said' used' → FeedsByInC other ns part text l said used r ns' text' l' said' used'
feeds_in_c_any other keeps ns part text l said used r ns' text' l' said' used' h = go (saying ns) h
  where
    go : (s : Outcome Progress) → FeedsAsInC reading s ns part text l said used r ns' text' l' said' used' → FeedsAsInC other s ns part text l said used r ns' text' l' said' used'
    go (gives need_more) k =
        record {
          feeding = k.feeding;
          takes = takes_any other keeps (head_for ns) (taken_for ns) part text l k.feeding text' l' k.takes;
          numbers_after = k.numbers_after;
          returned = k.returned;
          used_after = k.used_after;
        }
    go (gives (outcome o)) k = k
    go (refused n) k = k

pub npy_feed_tied : (ns part text : List ℕ) (l : Lent) (said used : List ℕ) (r : ℕ) (ns' text' : List ℕ) (l' : Lent) (said' used' : List ℕ) → AllBytes part → AllBytes text
    → FeedsInC ns part text l said used r ns' text' l' said' used' → NpyFeed ns part text l said used r ns' text' l' said' used'
npy_feed_tied ns part text l said used r ns' text' l' said' used' a b h =
    record { part_bytes = a; text_bytes = b; feeds = λ other keeps. feeds_in_c_any other keeps ns part text l said used r ns' text' l' said' used' h }
