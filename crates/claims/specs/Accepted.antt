-- Document 01, "The refusal numbers": 27, "caller's record .. that no reading gives (13, 20 to 22, 7, 4 aside)". The check of a caller's record accepts exactly the records
-- that some file is read as, apart from those whose header would be too deep (7) or too long (4); 13 and 20 to 22 are part of the check. t, ns, s and o are a caller's
-- table, names, shape and order.
use Rattle.refusal.specs.Answers.{answer}
use Rattle.header.specs.declared.Header.{Header}
use Rattle.refusal.specs.declared.Refusal.{Refusal}
use Rattle.std.specs.Prelude.{ℕ, ◌≡◌, true, List, Result}
use Rattle.counts.specs.Lists.{AllBytes}
use Rattle.counts.specs.Outcome.{gives}
use Rattle.dtype.specs.declared.Order.{Order}
use Rattle.dtype.specs.Record.{Record}
use Rattle.record.specs.Rooms.{Lent}
use Rattle.check_record.specs.declared.Summary.{Summary}
use Rattle.check_record.specs.Checked.{checked_record}
use Rattle.check_record.specs.Valid.{Valid}
use Rattle.header.specs.declared.RecordInfo.{RecordInfo}
use Rattle.header.specs.Reads.{HeaderInfo, header_answer, lent}
use Rattle.read_back.specs.Rooms.{Fronts, Holds}
use Rattle.npy_codes.specs.Codes.{order_number, text_values, summary_values}
use Rattle.claims.specs.Doors.{Door, in_rattle, in_c}
use Rattle.claims.specs.Exact.{InText, Printable}
use Rattle.claims.specs.Functions.{Read, ReadText, Check}
use Rattle.claims.specs.InC.{NpyCheck, NpyReadText}

-- some file is read as this record
pub record SomeFile (t ns s : List ℕ) (o : Order) : Type 0 where
  pub file : List ℕ
  pub before : Lent
  pub after : Lent
  pub result : Result Header Refusal
  pub reads : Read file before result after
  pub header : HeaderInfo
  pub is : header_answer result ≡ gives header
  pub holds : Fronts t ns s o header.info after

-- what an accepted table, names, shape and order are: those of a valid record (27, 13, 20, 21, 22); and, where its header can be printed (7, 4), some file, made of
-- bytes, is read as it, into rooms that are as long as it is
pub record AcceptedAs (t ns s : List ℕ) (o : Order) (r : Record) : Type 0 where
  pub valid : Valid t ns s o r
  pub from_file : Printable r → (f : SomeFile t ns s o) × AllBytes f.file × (f.before ≡ lent t ns s)

-- the result y of checking: a record that is read from some file is accepted, and what is accepted is such a record
pub record Accepts {R : Type 0} (door : Door Summary R) (t ns s : List ℕ) (o : Order) (y : R) : Type 0 where
  pub all_read : SomeFile t ns s o → door.success y ≡ true
  pub only_read : door.success y ≡ true → (r : Record) × AcceptedAs t ns s o r

-- the claim, for every caller's record
pub record AcceptsExactly : Type 0 where
  -- what the functions' predicates say of a caller's record (`checked_record`: its numbers to the record, or the first refusal) is the same
  pub valid_only : (t ns s : List ℕ) (o : Order) (r : Record) → checked_record t ns s o ≡ gives r → Valid t ns s o r
  pub all_valid : (t ns s : List ℕ) (o : Order) (r : Record) → Valid t ns s o r → checked_record t ns s o ≡ gives r
  pub check : (t ns s : List ℕ) (o : Order) (x : Result Summary Refusal) → Check t ns s o x → Accepts in_rattle t ns s o (answer x)
  pub npy_check : (t ns s : List ℕ) (o : Order) (said : List ℕ) (r : ℕ) (said' : List ℕ) → NpyCheck t ns s (order_number o) said r said'
      → Accepts (in_c summary_values said) t ns s o (r, said')
  -- what `header::read_text` and `npy_read_text` leave in the rooms is a text's record, and accepted
  pub read_text : (text : List ℕ) (l l' : Lent) (x : Result RecordInfo Refusal) (i : RecordInfo) → ReadText text l x l' → answer x ≡ gives i
      → (r : Record) × InText text r × Holds r i l'
  pub npy_read_text : (text : List ℕ) (l l' : Lent) (said said' : List ℕ) → NpyReadText text l said 0 l' said'
      → (i : RecordInfo) × (said' ≡ text_values i) × ((r : Record) × InText text r × Holds r i l')
