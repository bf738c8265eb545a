-- What a reading of the bytes that are held of a file leaves in the rooms: rooms of the same lengths give the same; a header that is answered is the file's, and its parts are
-- at the fronts of the rooms, where the check accepts them.
use Rattle.std.specs.Prelude.{Err, Ok}
use Prim.Native.Nat.{ℕ, ◌/◌}
use native.Mathlib.Omega.{arith}
use mathlib.Core.Path.{◌≡◌, refl, sym, ap, ◌∙◌}
use mathlib.Core.List.{List}
use mathlib.Core.Bool.{Bool, true, false}
use lib.Dec.{ltb}
use lib.ListN.{length, take, drop}
use Rattle.counts.specs.Outcome.{Outcome, gives, refused, then, each, unless, afterwards}
use Rattle.refusal.specs.declared.Refusal.{Refusal}
use Rattle.refusal.specs.Numbers.{number_of}
use Rattle.dtype.specs.Record.{entry_width}
use Rattle.record.specs.Prefix.{text_start, Prefix, data_start_of, prefix, missing, text_held}
use Rattle.record.specs.Rooms.{Rooms, Lent, rooms_of}
use Rattle.record.specs.Header as header
use Rattle.header_prefix.specs.Answer.{version_is}
use Rattle.judge.specs.Judged.{reading}
use Rattle.judge.proofs.Top.{reading_keeps}
use Rattle.header.specs.declared.Header.{Header}
use Rattle.header.specs.Reads.{HeaderInfo, header_info, header_is, after_prefix, held_into, ReadsHeld}
use Rattle.check_record.proofs.Accepts.{checked_valid}
use Rattle.read_back.specs.Rooms.{Holds}
use Rattle.read_back.proofs.Accepted.{read_checked}
use Rattle.read_back.proofs.Rooms.{fronts_by, checked_fronts}

-- ---- a header of a file that is held in part is one of the bytes that are held
text_whole : (longer : Bool) (p : Prefix) (file s : List ℕ) → text_held longer p file ≡ gives s → text_held false p file ≡ gives s
unfolding text_held
text_whole longer p file s e = go (ltb (length file) (data_start_of p)) e
  where
    go : (b : Bool) → unless b (missing longer) (gives (take p.text_length (drop (text_start p.version) file))) ≡ gives s
        → unless b 3 (gives (take p.text_length (drop (text_start p.version) file))) ≡ gives s
    go true e = absurd (let z : ◌≡◌ {A = ℕ} 0 1 = cc in omega arith)
    go false e = e

pub held_whole : (longer : Bool) (file : List ℕ) (l : Lent) (h : header.Header) → held_into longer file l ≡ gives h → header.held_by reading false file l ≡ gives h
held_whole longer file l h e = go (prefix file) e
  where
    texts : (p : Prefix) (o o' : Outcome (List ℕ)) → ((s : List ℕ) → o ≡ gives s → o' ≡ gives s)
        → then o (λ s. then (header.record_in reading s) (header.stored (rooms_of l) p)) ≡ gives h
        → then o' (λ s. then (header.record_in reading s) (header.stored (rooms_of l) p)) ≡ gives h
    texts p (gives s) o' same e = rw (same s refl) e
    texts p (refused n) o' same e = absurd (let z : ◌≡◌ {A = ℕ} 0 1 = cc in omega arith)

    go : (o : Outcome Prefix) → then o (λ p. after_prefix longer file p l) ≡ gives h → then o (λ p. after_prefix false file p l) ≡ gives h
    go (gives p) e = texts p (text_held longer p file) (text_held false p file) (text_whole longer p file) e
    go (refused n) e = absurd (let z : ◌≡◌ {A = ℕ} 0 1 = cc in omega arith)

-- ---- rooms of the same lengths
pub record Alike (l m : Lent) : Type 0 where
  pub tables : length l.table ≡ length m.table
  pub names : length l.names ≡ length m.names
  pub shapes : length l.shape ≡ length m.shape

rooms_eq : {a b n m k j : ℕ} → a ≡ b → n ≡ m → k ≡ j → ◌≡◌ {A = Rooms} (record { entries = a; name_bytes = n; rank = k }) (record { entries = b; name_bytes = m; rank = j })
rooms_eq p q r = cc

rooms_alike : (l m : Lent) → Alike l m → rooms_of l ≡ rooms_of m
rooms_alike l m s = rooms_eq (ap (λ (n : ℕ). n / entry_width) s.tables) s.names s.shapes

-- what is read to the rooms l, by what a reading to the rooms m gives
module _ (longer : Bool) (file : List ℕ) (l m : Lent) (alike : Alike l m) where
  held_alike : held_into longer file l ≡ held_into longer file m
  held_alike = ap (λ (r : Rooms). then (prefix file) (λ p. then (text_held longer p file) (λ s. then (header.record_in reading s) (header.stored r p)))) (rooms_alike l m alike)

  -- a header that is answered is the file's, and is in the rooms
  pub record Found (h : Header) (l' : Lent) : Type 0 where
    pub header_found : header.Header
    pub given : held_into longer file m ≡ gives header_found
    pub same_version : version_is h.version ≡ header_found.version
    pub start_is : h.start.0 ≡ header_found.data_start
    pub holds : Holds header_found.says h.info l'

  pub held_found : (h : Header) (l' : Lent) → ReadsHeld longer file l (Ok h) l' → Found h l'
  held_found h l' x = go (held_into longer file l) refl x.answered x.after
    where
      go : (o : Outcome header.Header) → held_into longer file l ≡ o → gives (header_is h) ≡ each header_info o → l' ≡ afterwards header.holding_header o l → Found h l'
      go (gives k) e p q =
          let same : header_is h ≡ header_info k = cc in
          let s = fronts_by k.says l l' h.info (ap (λ (t : HeaderInfo). t.info) same) q in
          record {
            header_found = k;
            given = sym held_alike ∙ e;
            same_version = ap (λ (t : HeaderInfo). t.version) same;
            start_is = ap (λ (t : HeaderInfo). t.data_start) same;
            holds = record { fronts = s; valid = checked_valid _ _ _ _ k.says (checked_fronts k.says h.info l' s (read_checked reading reading_keeps file (rooms_of l) k (held_whole longer file l k e))) };
          }
      go (refused n) e p q = absurd (let z : ◌≡◌ {A = ℕ} 0 1 = cc in omega arith)

  pub held_refused : (f : Refusal) (l' : Lent) → ReadsHeld longer file l (Err f) l' → held_into longer file m ≡ refused (number_of f)
  held_refused f l' x = go (held_into longer file l) refl x.answered
    where
      go : (o : Outcome header.Header) → held_into longer file l ≡ o → refused (number_of f) ≡ each header_info o → held_into longer file m ≡ refused (number_of f)
      go (gives k) e p = absurd (let z : ◌≡◌ {A = ℕ} 0 1 = cc in omega arith)
      go (refused n) e p = let k : number_of f ≡ n = cc in sym held_alike ∙ e ∙ ap refused (sym k)
