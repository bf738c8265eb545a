-- From the text read with lent rooms to the header after its prefix, and to the whole file.
use Rattle.refusal.specs.Answers.{answer}
use Rattle.header.specs.declared.Header.{Header}
use Rattle.std.specs.Prelude.{Err, Ok, Result}
use Prim.Native.Nat.{ℕ, ◌+◌, ◌-◌, ◌<◌, ◌≤◌}
use native.Mathlib.Omega.{arith}
use mathlib.Core.Path.{◌≡◌, refl, sym, ap, subst, ◌∙◌}
use mathlib.Core.List.{List}
use mathlib.Core.Bool.{Bool, true, false}
use lib.ListN.{length, take, drop}
use borrow.Author.Tests.{lt-ltb, le-ltb}
use Rattle.counts.specs.Outcome.{Outcome, gives, refused, then, each, unless, afterwards}
use Rattle.refusal.specs.declared.Refusal.{Refusal}
use Rattle.refusal.specs.Numbers.{number_of}
use Rattle.dtype.specs.Record.{Record}
use Rattle.record.specs.Prefix.{Version, text_start, one_zero, two_zero, three_zero, Prefix, data_start_of, prefix, missing, text_held}
use Rattle.record.specs.Rooms.{Rooms, needs, too_small, Lent, rooms_of, holding}
use Rattle.record.specs.Header as header
use Rattle.header_prefix.specs.declared.Prefix as before
use Rattle.header_prefix.specs.Answer.{version_is, prefix_is}
use Rattle.judge.specs.Judged.{reading}
use Rattle.header.specs.declared.RecordInfo.{RecordInfo}
use Rattle.header.specs.Reads.{info_of, ReadsText, HeaderInfo, header_info, header_answer, after_prefix, held_into, ReadsAfterPrefix, ReadsHeld}

-- ---- after the prefix
pub start_small : (v : Version) → text_start v ≤ 12
start_small one_zero = omega arith
start_small two_zero = omega arith
start_small three_zero = omega arith

-- a record after its prefix
abbrev headed : Prefix → Record → header.Header
headed p r = record { version = p.version; says = r; data_start = data_start_of p }

abbrev header_info_of : Prefix → RecordInfo → HeaderInfo
header_info_of p s = record { version = p.version; info = s; data_start = data_start_of p }

stored_is : (rooms : Rooms) (p : Prefix) (r : Record) → header.stored rooms p r ≡ each (headed p) (header.fitted rooms r r)
unfolding header.stored
stored_is rooms p r = go (too_small rooms (needs r))
  where
    go : (b : Bool) → unless b 23 (gives (headed p r)) ≡ each (headed p) (unless b 23 (gives r))
    go true = refl
    go false = refl

module _ (longer : Bool) (file : List ℕ) (p : Prefix) (l : Lent) where
  abbrev words : List ℕ
  words = take p.text_length (drop (text_start p.version) file)

  record_then : (o : Outcome Record) → then o (header.stored (rooms_of l) p) ≡ each (headed p) (then o (λ r. header.fitted (rooms_of l) r r))
  record_then (gives r) = stored_is (rooms_of l) p r
  record_then (refused n) = refl

  after_is : data_start_of p ≤ length file → after_prefix longer file p l ≡ each (headed p) (header.text_by reading words l)
  unfolding text_held
  after_is le = rw (text_held, le-ltb (length file) (data_start_of p) le) (record_then (header.record_in reading words))

  info_each : (o : Outcome Record) → each header_info (each (headed p) o) ≡ each (header_info_of p) (each info_of o)
  info_each (gives r) = refl
  info_each (refused n) = refl

  filled_each : (o : Outcome Record) → afterwards header.holding_header (each (headed p) o) l ≡ afterwards holding o l
  filled_each (gives r) = refl
  filled_each (refused n) = refl

  pub after_missing : (f : Refusal) → number_of f ≡ missing longer → length file < data_start_of p → ReadsAfterPrefix longer file p l (Err f) l
  unfolding text_held
  after_missing f e lt = let z = lt-ltb (length file) (data_start_of p) lt in record { answered = rw (text_held, z) (ap refused e); after = rw (text_held, z) refl }

  after_by : data_start_of p ≤ length file → (x : Result RecordInfo Refusal) (l' : Lent) (y : Result Header Refusal) → ReadsText words l x l' → header_answer y ≡ each (header_info_of p) (answer x) → ReadsAfterPrefix longer file p l y l'
  after_by le x l' y h e =
      let o = header.text_by reading words l in
      record {
        answered = e ∙ ap (each (header_info_of p)) h.answered ∙ sym (info_each o) ∙ ap (each header_info) (sym (after_is le));
        after = h.after ∙ sym (filled_each o) ∙ ap (λ (z : Outcome header.Header). afterwards header.holding_header z l) (sym (after_is le));
      }

-- the same, of what the code has in hand
module _ (longer : Bool) (file : List ℕ) (p : before.Prefix) (l l' : Lent) (start : ℕ) (at : start ≡ text_start (version_is p.version)) (le : start + p.length ≤ length file) (x : Result RecordInfo Refusal) (h : ReadsText (take (start + p.length - start) (drop start file)) l x l') where
  start_is : start + p.length ≡ data_start_of (prefix_is p)
  start_is = ap (λ (n : ℕ). n + p.length) at

  words_read : ReadsText (words longer file (prefix_is p) l) l x l'
  words_read =
      let len : start + p.length - start ≡ p.length = omega arith in
      subst (λ (s : List ℕ). ReadsText s l x l') (ap (λ (n : ℕ). take n (drop start file)) len ∙ ap (λ (n : ℕ). take p.length (drop n file)) at) h

  reaches : data_start_of (prefix_is p) ≤ length file
  reaches = subst (λ (n : ℕ). n ≤ length file) start_is le

  pub after_read : (s : RecordInfo) → x ≡ Ok s → ReadsAfterPrefix longer file (prefix_is p) l (Ok (record { version = p.version; info = s; start = record { 0 = start + p.length } })) l'
  after_read s e =
      after_by longer file (prefix_is p) l reaches x l' _ words_read
      (ap (λ (n : ℕ). gives (record { version = version_is p.version; info = s; data_start = n })) start_is ∙ sym (ap (λ (y : Result RecordInfo Refusal). each (header_info_of (prefix_is p)) (answer y)) e))

  pub after_refused : (f : Refusal) → x ≡ Err f → ReadsAfterPrefix longer file (prefix_is p) l (Err f) l'
  after_refused f e = after_by longer file (prefix_is p) l reaches x l' (Err f) words_read (sym (ap (λ (y : Result RecordInfo Refusal). each (header_info_of (prefix_is p)) (answer y)) e))

-- ---- the file
module _ (longer : Bool) (file : List ℕ) (l : Lent) where
  held_then : (o : Outcome Prefix) → prefix file ≡ o → held_into longer file l ≡ then o (λ p. after_prefix longer file p l)
  held_then o e = ap (λ (x : Outcome Prefix). then x (λ p. after_prefix longer file p l)) e

  pub held_read : (p : Prefix) (x : Result Header Refusal) (l' : Lent) → gives p ≡ prefix file → ReadsAfterPrefix longer file p l x l' → ReadsHeld longer file l x l'
  held_read p x l' e h =
      let z = held_then (gives p) (sym e) in
      record { answered = h.answered ∙ ap (each header_info) (sym z); after = h.after ∙ ap (λ (o : Outcome header.Header). afterwards header.holding_header o l) (sym z) }

  pub held_refused : (f : Refusal) → refused (number_of f) ≡ prefix file → ReadsHeld longer file l (Err f) l
  held_refused f e =
      let z = held_then (refused (number_of f)) (sym e) in
      record { answered = ap (each header_info) (sym z); after = ap (λ (o : Outcome header.Header). afterwards header.holding_header o l) (sym z) }
