-- No second outcome satisfies the statements of `read`, `read_held` and `read_text`: an outcome is the answer and what the three rooms then hold. And which reading of
-- literals is meant does not matter, if it keeps the promise of crate literal_grammar.
use Rattle.header.specs.declared.Header as declared
use Rattle.header.specs.declared.RecordInfo.{RecordInfo}
use Rattle.refusal.specs.declared.Refusal.{Refusal}
use Rattle.std.specs.Prelude.{Err, Ok, Result}
use mathlib.Core.Path.{◌≡◌, sym, ap, ◌∙◌}
use mathlib.Core.List.{List}
use mathlib.Core.Bool.{Bool}
use Prim.Native.Nat.{ℕ}
use Rattle.counts.specs.Outcome.{Outcome, each, afterwards}
use Rattle.counts.specs.OneOutcome.{OneOutcome}
use Rattle.counts.proofs.OneOutcome.{pair_of}
use Rattle.refusal.proofs.Names.{refusal_back}
use Rattle.refusal.proofs.Answers.{answer_for, answer_one, whole_one}
use Rattle.dtype.specs.Record.{Record}
use Rattle.record.specs.Rooms.{Lent, rooms_of, holding}
use Rattle.record.specs.Header.{Header, Reading, Keeps, holding_header}
use Rattle.record.proofs.OneHeader.{header_same, text_same as records_same}
use Rattle.header_prefix.specs.declared.Version.{Version}
use Rattle.header_prefix.proofs.Outcomes.{version_back, version_back_lem}
use Rattle.judge.specs.Judged.{reading}
use Rattle.judge.proofs.Top.{reading_keeps}
use Rattle.header.specs.Reads.{info_of, ReadsTextBy, ReadsText, HeaderInfo, header_info, header_answer, ReadsBy, ReadsHeld, Reads}

-- ---- an answer can be found again from what it means
abbrev read_for : HeaderInfo → Result declared.Header Refusal
read_for h = Ok (record { version = version_back h.version; info = h.info; start = record { 0 = h.data_start } })

file_same : (a : Result declared.Header Refusal) → answer_for read_for Err (header_answer a) ≡ a
file_same (Ok h) = ap (λ (v : Version). Ok (record { version = v; info = h.info; start = h.start })) (version_back_lem h.version)
file_same (Err why) = ap Err (refusal_back why)

file_one : (o : Outcome HeaderInfo) → OneOutcome (λ r. header_answer r ≡ o)
file_one o = answer_one header_answer read_for Err file_same o

-- ---- the outcomes
pub read_one : (file : List ℕ) (l : Lent) → OneOutcome {A = Result declared.Header Refusal × Lent} (λ o. Reads file l o.0 o.1)
read_one file l x y p q = pair_of (file_one _ x.0 y.0 p.answered q.answered) (p.after ∙ sym q.after)

pub read_held_one : (longer : Bool) (file : List ℕ) (l : Lent) → OneOutcome {A = Result declared.Header Refusal × Lent} (λ o. ReadsHeld longer file l o.0 o.1)
read_held_one longer file l x y p q = pair_of (file_one _ x.0 y.0 p.answered q.answered) (p.after ∙ sym q.after)

pub read_text_one : (text : List ℕ) (l : Lent) → OneOutcome {A = Result RecordInfo Refusal × Lent} (λ o. ReadsText text l o.0 o.1)
read_text_one text l x y p q = pair_of (whole_one _ x.0 y.0 p.answered q.answered) (p.after ∙ sym q.after)

-- ---- any reading that keeps the promise
module _ (other : Reading) (keeps : Keeps other) where
  pub any_reading : (longer : Bool) (file : List ℕ) (l : Lent) (x : Result declared.Header Refusal) (l' : Lent) → ReadsHeld longer file l x l' → ReadsBy other longer file l x l'
  any_reading longer file l x l' h =
      let same = header_same reading other reading_keeps keeps longer file (rooms_of l) in
      record { answered = h.answered ∙ ap (each header_info) same; after = h.after ∙ ap (λ (o : Outcome Header). afterwards holding_header o l) same }

  pub any_text_reading : (text : List ℕ) (l : Lent) (x : Result RecordInfo Refusal) (l' : Lent) → ReadsText text l x l' → ReadsTextBy other text l x l'
  any_text_reading text l x l' h =
      let same = records_same reading other reading_keeps keeps text l in
      record { answered = h.answered ∙ ap (each info_of) same; after = h.after ∙ ap (λ (o : Outcome Record). afterwards holding o l) same }
