-- Entries in the room of a table, and array levels written from the innermost on. One more level before those already written is its entry followed by them, so the
-- levels around a type are the table of the array.
use Prim.Native.Nat.{ℕ, zero, suc, ◌+◌, ◌-◌, ◌*◌, ◌/◌, ◌^◌, ◌<◌, ◌≤◌}
use native.Mathlib.Omega.{arith}
use mathlib.Core.Path.{◌≡◌, refl, sym, ap, ◌∙◌}
use mathlib.Core.List.{List, [], ◌∷◌}
use mathlib.Core.Bool.{Bool, true, false, cond}
use lib.Dec.{ltb}
use lib.ListN.{length, get_or, drop}
use lib.Seq.{sets, length-sets, drop-cons, drop-length}
use borrow.Author.Tests.{lt-ltb, le-ltb}
use Rattle.dtype.specs.declared.Entry.{Entry}
use Rattle.dtype.specs.Dtype.{Dtype, array, size_of}
use Rattle.dtype.specs.Entries.{entries_of}
use Rattle.counts.specs.Number.{capped}
use Rattle.dtype.specs.Record.{entry_width, flat}
use Rattle.dtype.specs.EntryOf.{entry_of, entry_numbers}
use Rattle.dtype.proofs.Whole.{capped_times}
use Rattle.record.specs.Descr.{arrays}
use Rattle.table_fill.specs.Written.{put, bare, up_of, name_of, size_over, levelled}
use Rattle.table_fill.proofs.Stores.{sets_back}

-- ---- one entry
pub put_room : (table : List ℕ) (at : ℕ) (e : Entry) → entry_width * at + entry_width ≤ length table → put table at e ≡ sets table (entry_width * at) (entry_numbers e [])
put_room table at e h =
    ap (λ (t : Bool). cond t (sets table (entry_width * at) (entry_numbers e [])) table) (lt-ltb at (length table / entry_width) (omega arith))

pub put_none : (table : List ℕ) (at : ℕ) (e : Entry) → length table / entry_width ≤ at → put table at e ≡ table
put_none table at e h = ap (λ (t : Bool). cond t (sets table (entry_width * at) (entry_numbers e [])) table) (le-ltb at (length table / entry_width) h)

pub put_length : (table : List ℕ) (at : ℕ) (e : Entry) → length (put table at e) ≡ length table
put_length table at e = go (ltb at (length table / entry_width))
  where
    go : (t : Bool) → length (cond t (sets table (entry_width * at) (entry_numbers e [])) table) ≡ length table
    go true = length-sets table (entry_width * at) (entry_numbers e [])
    go false = refl

-- one entry followed by what comes after it
pub entry_before : (e : Entry) (at at' : ℕ) (x old : List ℕ) → at' ≡ suc at → sets (sets old (entry_width * at') x) (entry_width * at) (entry_numbers e []) ≡ sets old (entry_width * at) (entry_numbers e x)
entry_before e at at' x old h =
    let i : entry_width * at' ≡ entry_width * at + entry_width = omega arith in
    ap (λ (j : ℕ). sets (sets old j x) (entry_width * at) (entry_numbers e [])) i ∙ sym (sets_back old (entry_width * at) (entry_numbers e []) x)

-- ---- the parent and the name of a level
-- a level below the outermost has no name, and its parent is the level above it
pub name_later : (k m : ℕ) → (k ≡ 0 → ⊥) → 0 ≡ name_of k m
name_later zero m h = absurd (h refl)
name_later (suc k) m h = refl

pub up_later : (k entry up : ℕ) → (k ≡ 0 → ⊥) → capped (entry + (k - 1)) ≡ capped (up_of k entry up)
up_later zero entry up h = absurd (h refl)
up_later (suc k) entry up h = omega arith

pub up_first : (k entry up : ℕ) → k ≡ 0 → up < 2 ^ 64 → up ≡ capped (up_of k entry up)
up_first zero entry up h l = omega arith
up_first (suc k) entry up h l = absurd (omega arith)

-- the number of an entry of a table is below 2^64
pub up_fits : (k entry up : ℕ) → up < 2 ^ 64 → entry + k < 2 ^ 64 → capped (up_of k entry up) ≡ up_of k entry up
up_fits zero entry up l h = omega arith
up_fits (suc k) entry up l h = omega arith

name_none : (k : ℕ) → 0 ≡ name_of k 0
name_none zero = refl
name_none (suc k) = refl

up_above : (k at : ℕ) → at + k ≡ up_of k (suc at) at
up_above zero at = omega arith
up_above (suc k) at = omega arith

-- ---- a size times numbers, capped at each or at the end
pub size_over_lem : (ns : List ℕ) (d : Dtype) (size : ℕ) → size ≡ capped (size_of d) → size_over ns size ≡ capped (size_of (arrays ns d))
size_over_lem [] d size h = h
size_over_lem (n ∷ ns) d size h = ap (λ (x : ℕ). capped (n * x)) (size_over_lem ns d size h) ∙ capped_times n (size_of (arrays ns d))

-- ---- the levels above a type are the table of the array
pub levels_flat : (ns : List ℕ) (d : Dtype) (at up m last size : ℕ) (old : List ℕ) → size ≡ capped (size_of d) → last ≡ at + entries_of (arrays ns d) → entry_width * last ≤ length old
    → levelled ns at up m last size (sets old (entry_width * (at + length ns)) (flat d (at + length ns) (up_of (length ns) at up) (name_of (length ns) m) []))
    ≡ sets old (entry_width * at) (flat (arrays ns d) at up m [])
levels_flat [] d at up m last size old hs hl hr =
    let z : at + 0 ≡ at = omega arith in
    ap (λ (x : ℕ). sets old (entry_width * x) (flat d x up m [])) z
levels_flat (n ∷ ns) d at up m last size old hs hl hr =
    let inner = arrays ns d in
    let one : at + suc (length ns) ≡ suc at + length ns = omega arith in
    let below : flat d (at + suc (length ns)) (at + length ns) 0 [] ≡ flat d (suc at + length ns) (up_of (length ns) (suc at) at) (name_of (length ns) 0) [] =
    ap (λ (x : ℕ). flat d x (at + length ns) 0 []) one
    ∙ ap (λ (x : ℕ). flat d (suc at + length ns) x 0 []) (up_above (length ns) at)
    ∙ ap (λ (x : ℕ). flat d (suc at + length ns) (up_of (length ns) (suc at) at) x []) (name_none (length ns)) in
    let base : sets old (entry_width * (at + suc (length ns))) (flat d (at + suc (length ns)) (at + length ns) 0 [])
    ≡ sets old (entry_width * (suc at + length ns)) (flat d (suc at + length ns) (up_of (length ns) (suc at) at) (name_of (length ns) 0) []) =
    ap (sets old (entry_width * (at + suc (length ns)))) below
    ∙ ap (λ (x : ℕ). sets old (entry_width * x) (flat d (suc at + length ns) (up_of (length ns) (suc at) at) (name_of (length ns) 0) [])) one in
    let inside = ap (levelled ns (suc at) at 0 last size) base ∙ levels_flat ns d (suc at) at 0 last size old hs (omega arith) hr in
    let e = bare 1 up n (last - at) (size_over (n ∷ ns) size) m in
    let ext : last - at ≡ suc (entries_of inner) = omega arith in
    let is : e ≡ entry_of (array n inner) up m =
    ap (λ (x : ℕ). bare 1 up n x (size_over (n ∷ ns) size) m) ext ∙ ap (λ (x : ℕ). bare 1 up n (suc (entries_of inner)) x m) (size_over_lem (n ∷ ns) d size hs) in
    let x = flat inner (suc at) at 0 [] in
    let long = length-sets old (entry_width * suc at) x in
    ap (λ (t : List ℕ). put t at e) inside ∙ put_room (sets old (entry_width * suc at) x) at e (omega (arith, long, hl, hr))
    ∙ entry_before e at (suc at) x old refl ∙ ap (λ (y : Entry). sets old (entry_width * at) (entry_numbers y x)) is

-- ---- written from the innermost on
module _ (ns : List ℕ) (entry up m last size : ℕ) (table0 : List ℕ) where
  -- the levels from k on have been written
  pub record Above (k : ℕ) (table : List ℕ) (held : ℕ) : Type 0 where
    pub low : k ≤ length ns
    pub long : length table ≡ length table0
    pub sized : held ≡ size_over (drop k ns) size
    pub holds : table ≡ levelled (drop k ns) (entry + k) (up_of k entry up) (name_of k m) last size table0

  pub above_start : Above (length ns) table0 size
  above_start =
      let none = drop-length ns in
      record {
        low = omega arith;
        long = refl;
        sized = ap (λ (l : List ℕ). size_over l size) (sym none);
        holds = ap (λ (l : List ℕ). levelled l (entry + length ns) (up_of (length ns) entry up) (name_of (length ns) m) last size table0) (sym none);
      }

  pub above_more : (k j : ℕ) (table : List ℕ) (held : ℕ) → Above k table held → k ≡ suc j → (n held' : ℕ) → n ≡ get_or ns j 0 → held' ≡ capped (n * held)
      → (table' : List ℕ) → table' ≡ put table (entry + j) (bare 1 (up_of j entry up) n (last - (entry + j)) held' (name_of j m)) → Above j table' held'
  above_more k j table held w hk n held' hn hs table' ht =
      let cons : drop j ns ≡ n ∷ drop k ns = drop-cons ns j 0 (omega (arith, w.low)) ∙ ap (λ (x : ℕ). x ∷ drop (suc j) ns) (sym hn) ∙ ap (λ (x : ℕ). n ∷ drop x ns) (sym hk) in
      let at' : entry + k ≡ suc (entry + j) = omega arith in
      let more : held' ≡ size_over (n ∷ drop k ns) size = hs ∙ ap (λ (x : ℕ). capped (n * x)) w.sized in
      let stand : table ≡ levelled (drop k ns) (suc (entry + j)) (entry + j) 0 last size table0 =
      w.holds ∙ ap (λ (x : ℕ). levelled (drop k ns) x (up_of k entry up) (name_of k m) last size table0) at'
      ∙ ap (λ (x : ℕ). levelled (drop k ns) (suc (entry + j)) (up_of x entry up) (name_of x m) last size table0) hk in
      record {
        low = omega (arith, w.low);
        long = ap length ht ∙ put_length table (entry + j) (bare 1 (up_of j entry up) n (last - (entry + j)) held' (name_of j m)) ∙ w.long;
        sized = more ∙ ap (λ (l : List ℕ). size_over l size) (sym cons);
        holds = ht ∙ ap (λ (x : ℕ). put table (entry + j) (bare 1 (up_of j entry up) n (last - (entry + j)) x (name_of j m))) more
            ∙ ap (λ (t : List ℕ). put t (entry + j) (bare 1 (up_of j entry up) n (last - (entry + j)) (size_over (n ∷ drop k ns) size) (name_of j m))) stand
            ∙ ap (λ (l : List ℕ). levelled l (entry + j) (up_of j entry up) (name_of j m) last size table0) (sym cons);
      }

  pub above_all : (k : ℕ) (table : List ℕ) (held : ℕ) → Above k table held → k ≡ 0 → (held ≡ size_over ns size) × (table ≡ levelled ns entry up m last size table0)
  above_all k table held w hk =
      let z : entry + 0 ≡ entry = omega arith in (
        w.sized ∙ ap (λ (x : ℕ). size_over (drop x ns) size) hk,
        w.holds ∙ ap (λ (x : ℕ). levelled (drop x ns) (entry + x) (up_of x entry up) (name_of x m) last size table0) hk ∙ ap (λ (x : ℕ). levelled ns x up m last size table0) z,
      )
