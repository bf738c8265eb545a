-- A text that is complete, as `header::read_text` answers it, is what is said of its header; and the head's bytes as `grow` stores them.
use Rattle.refusal.specs.Answers.{answer}
use Rattle.std.specs.Prelude.{Err, Ok, Result}
use Prim.Native.Nat.{ℕ, ◌+◌, ◌-◌, ◌≤◌, min}
use native.Mathlib.Omega.{arith}
use mathlib.Core.Path.{◌≡◌, refl, ap, sym, ◌∙◌}
use mathlib.Core.List.{List}
use mathlib.Core.Bool.{Bool, true, false}
use lib.Dec.{eqb}
use lib.ListN.{length, take, drop, length-drop}
use lib.Seq.{paste, paste-zero, take_all}
use borrow.Author.Tests.{eqb-true, eqb-false}
use Rattle.counts.specs.Outcome.{Outcome, gives, refused, then, each, unless, afterwards}
use Rattle.refusal.specs.declared.Refusal.{Refusal}
use Rattle.refusal.specs.Numbers.{number_of}
use Rattle.dtype.specs.Record.{Record}
use Rattle.record.specs.Prefix as version
use Rattle.record.specs.Prefix.{text_start, Prefix, data_start_of}
use Rattle.record.specs.Rooms.{Rooms, needs, too_small, Lent, rooms_of, holding}
use Rattle.record.specs.Header as header
use Rattle.judge.specs.Judged.{reading}
use Rattle.header_prefix.specs.declared.Version.{Version}
use Rattle.header_prefix.specs.declared.Prefix as before
use Rattle.header_prefix.specs.Answer.{version_is, prefix_is, prefix_answer}
use Rattle.header.specs.declared.RecordInfo.{RecordInfo}
use Rattle.header.specs.Reads.{HeaderInfo, header_info, info_of, ReadsText}
use Rattle.header_feed.specs.declared.Fed.{Fed}
use Rattle.header_feed.specs.Feeds.{outcome, progress}
use Rattle.header_feed.specs.Steps.{Grown, ReadsWhole}

pub start_small : (v : version.Version) → text_start v ≤ 12
start_small version.one_zero = omega arith
start_small version.two_zero = omega arith
start_small version.three_zero = omega arith

-- a record after its prefix
abbrev headed : Prefix → Record → header.Header
headed p r = record { version = p.version; says = r; data_start = data_start_of p }

abbrev info_after : Prefix → RecordInfo → HeaderInfo
info_after p i = record { version = p.version; info = i; data_start = data_start_of p }

stored_is : (rooms : Rooms) (p : Prefix) (r : Record) → header.stored rooms p r ≡ each (headed p) (header.fitted rooms r r)
unfolding header.stored
stored_is rooms p r = go (too_small rooms (needs r))
  where
    go : (b : Bool) → unless b 23 (gives (headed p r)) ≡ each (headed p) (unless b 23 (gives r))
    go true = refl
    go false = refl

module _ (v : Version) (text : List ℕ) (l l' : Lent) where
  abbrev p : Prefix
  p = record { version = version_is v; text_length = length text }

  record_then : (o : Outcome Record) → then o (header.stored (rooms_of l) p) ≡ each (headed p) (then o (λ r. header.fitted (rooms_of l) r r))
  record_then (gives r) = stored_is (rooms_of l) p r
  record_then (refused n) = refl

  info_each : (o : Outcome Record) → each header_info (each (headed p) o) ≡ each (info_after p) (each info_of o)
  info_each (gives r) = refl
  info_each (refused n) = refl

  holding_each : (o : Outcome Record) → afterwards header.holding_header (each (headed p) o) l ≡ afterwards holding o l
  holding_each (gives r) = refl
  holding_each (refused n) = refl

  reads_by : (x : Result RecordInfo Refusal) (f : Fed) → ReadsText text l x l' → progress f ≡ outcome (each (info_after p) (answer x)) → ReadsWhole (version_is v) text l f l'
  reads_by x f h e =
      let o = header.text_by reading text l in
      let z = record_then (header.record_in reading text) in
      record {
        says = e ∙ ap (λ (u : Outcome RecordInfo). outcome (each (info_after p) u)) h.answered ∙ ap outcome (sym (info_each o)) ∙ ap (λ (u : Outcome header.Header). outcome (each header_info u)) (sym z);
        after = h.after ∙ sym (holding_each o) ∙ ap (λ (u : Outcome header.Header). afterwards header.holding_header u l) (sym z);
      }

  pub reads_given : (x : Result RecordInfo Refusal) (i : RecordInfo) (start : ℕ) → ReadsText text l x l' → x ≡ Ok i → start ≡ text_start (version_is v)
      → ReadsWhole (version_is v) text l (Fed.Read (record { version = v; info = i; start = record { 0 = start + length text } })) l'
  reads_given x i start h e at = reads_by x _ h (rw (e, at))

  pub reads_refused : (x : Result RecordInfo Refusal) (r : Refusal) → ReadsText text l x l' → x ≡ Err r → ReadsWhole (version_is v) text l (Fed.Refused r) l'
  reads_refused x r h e = reads_by x _ h (rw e)

-- ---- `grow`
pub grown_none : (head : List ℕ) (had upto : ℕ) (rest : List ℕ) (from : ℕ) → upto ≤ had → Grown head had upto rest from (record { head = head; taken = had; used = from })
grown_none head had upto rest from h =
    let z : min (upto - had) (length rest) ≡ 0 = omega arith in
    record { head_is = rw z (paste-zero head had rest); taken_is = omega (arith, z); used_is = omega (arith, z) }

-- what a part from `from` on is, as the code has it
pub from_on : (from : ℕ) (part : List ℕ) → take (length part - from) (drop from part) ≡ drop from part
from_on from part = take_all (length part - from) (drop from part) (omega (arith, length-drop from part))

pub grown_some : (head : List ℕ) (had upto : ℕ) (part : List ℕ) (from n : ℕ) (y : List ℕ) → n ≡ min (upto - had) (length (take (length part - from) (drop from part)))
    → y ≡ paste head had (take (length part - from) (drop from part)) n → Grown head had upto (drop from part) from (record { head = y; taken = had + n; used = from + n })
grown_some head had upto part from n y e f =
    let q = from_on from part in
    let m : n ≡ min (upto - had) (length (drop from part)) = rw q at e in
    let g : y ≡ paste head had (drop from part) n = rw q at f in
    record { head_is = g ∙ ap (paste head had (drop from part)) m; taken_is = ap (λ (k : ℕ). had + k) m; used_is = ap (λ (k : ℕ). from + k) m }

-- ---- the answers of `prefix_in`, and of `is_incomplete`
module _ (x : Result before.Prefix Refusal) where
  pub read_no_three : (p : before.Prefix) → x ≡ Ok p → prefix_answer x ≡ refused 3 → ⊥
  read_no_three p e q = let z : ◌≡◌ {A = ℕ} 0 1 = cc (ap prefix_answer e) in omega arith

  pub no_three : (r : Refusal) (b : Bool) → b ≡ eqb (number_of r) 3 → b ≡ false → number_of r ≡ 3 → ⊥
  no_three r b f n = eqb-false (number_of r) 3 (sym f ∙ n)

  pub other_no_three : (r : Refusal) (b : Bool) → x ≡ Err r → b ≡ eqb (number_of r) 3 → b ≡ false → prefix_answer x ≡ refused 3 → ⊥
  other_no_three r b e f n q = let z : number_of r ≡ 3 = cc (ap prefix_answer e) in no_three r b f n z

  pub is_three : (o : Outcome Prefix) (r : Refusal) (b : Bool) → prefix_answer x ≡ o → x ≡ Err r → b ≡ eqb (number_of r) 3 → b ≡ true → refused 3 ≡ o
  is_three o r b a e f t = ap refused (sym (eqb-true (number_of r) 3 (sym f ∙ t))) ∙ sym (ap prefix_answer e) ∙ a

  pub is_refused : (o : Outcome Prefix) (r : Refusal) → prefix_answer x ≡ o → x ≡ Err r → refused (number_of r) ≡ o
  is_refused o r a e = sym (ap prefix_answer e) ∙ a

  pub is_given : (o : Outcome Prefix) (p : before.Prefix) → prefix_answer x ≡ o → x ≡ Ok p → o ≡ gives (prefix_is p)
  is_given o p a e = sym a ∙ ap prefix_answer e
