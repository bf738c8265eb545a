-- A table and its names pass the tests exactly if they are those of a dtype that some reading gives and that is no array: a whole table is a
-- dtype's, and the tests find in the entries what 27 requires of the dtype.
use Prim.Native.Nat.{ℕ, ◌*◌, ◌<◌}
use mathlib.Core.Path.{◌≡◌, refl, ap, sym, ◌∙◌}
use mathlib.Core.Bool.{Bool, true, false, not, ◌||◌, ◌&&◌, cond}
use mathlib.Core.List.{List, []}
use native.Mathlib.Omega.{arith}
use lib.ListN.{length}
use Rattle.counts.specs.Outcome.{Outcome, gives, refused, then, unless}
use Rattle.counts.specs.Lists.{same}
use Rattle.counts.proofs.Alike.{true_false}
use Rattle.utf8.specs.Decode.{utf8, scan}
use Rattle.dtype.specs.declared.Entry.{Entry}
use Rattle.dtype.specs.Dtype.{Dtype, plain, array, record_of}
use Rattle.dtype.specs.Entries.{entries_of}
use Rattle.dtype.specs.Record.{entry_width, table, names, unflat, table_of}
use Rattle.dtype.specs.EntryOf.{kind_column}
use Rattle.dtype.specs.Agrees.{entry_at}
use Rattle.dtype.proofs.Record.{table_of_right, table_of_these}
use Rattle.dtype.proofs.InTable.{in_table_entry}
use Rattle.dtype.proofs.Seen.{or_left, or_right, names_seen, table_length}
use Rattle.dtype.proofs.Whole.{whole_lists, lists_whole}
use Rattle.check_table.specs.Decides.{refuses, Decides, untyped_at, SoundEntry}
use Rattle.check_table.specs.Reading.{untyped, ill_named, is_array, unread, read_dtype}
use Rattle.check_table.specs.Named.{NamesPass, Outermost}
use Rattle.table_entry.proofs.Walks.{none_passes, none_back}
use Rattle.check_table.proofs.Typed.{untyped_seen}

-- ---- the whole table
pub record Passes (t ns : List ℕ) (n : ℕ) : Type 0 where
  pub long : length t ≡ entry_width * n
  pub some : 0 < n
  pub first : Outermost (entry_at t 0) n
  pub sound : (e : ℕ) → e < n → SoundEntry t n e
  pub named : NamesPass t ns n

array_kind : (d : Dtype) → is_array d ≡ false → kind_column d ≡ 1 → ⊥
array_kind (plain t) h k = omega arith
array_kind (array n d) h k = true_false h
array_kind (record_of fs) h k = omega arith

kind_array : (d : Dtype) → (kind_column d ≡ 1 → ⊥) → is_array d ≡ false
kind_array (plain t) h = refl
kind_array (array n d) h = absurd (h refl)
kind_array (record_of fs) h = refl

empty_well : refuses (utf8 []) ≡ false
unfolding scan
empty_well = refl

module _ (d : Dtype) where
  first_entry : (entry_at (table d) 0).kind ≡ kind_column d
  first_entry = ap (λ (a : Entry). a.kind) (in_table_entry d (table d) 0 0 0 [] refl)

  listed_passes : is_array d ≡ false → untyped d ≡ false → ill_named d ≡ false → Passes (table d) (names d) (entries_of d)
  listed_passes a u i =
      let w = lists_whole d in
      record {
        long = w.long;
        some = w.some;
        first =
            record {
              no_array = λ h. array_kind d a (sym first_entry ∙ h);
              reaches = w.reaches;
              no_parent = w.no_parent;
              no_name = w.no_name;
            };
        sound = λ e l. record { agrees = w.agrees e l; typed = none_back (untyped_at (table d)) (entries_of d) e (untyped_seen d ∙ u) l };
        named = record { long = w.named; all_well = names_seen (λ name. refuses (utf8 name)) empty_well d ∙ i };
      }

  passes_listed : Passes (table d) (names d) (entries_of d) → unread d ≡ false
  passes_listed p =
      let a = kind_array d (λ h. p.first.no_array (first_entry ∙ h)) in
      let u = sym (untyped_seen d) ∙ sym (none_passes (untyped_at (table d)) (entries_of d) (λ e l. (p.sound e l).typed)) in
      let i = sym (names_seen (λ name. refuses (utf8 name)) empty_well d) ∙ p.named.all_well in
      simp (a, u, i)

listed_read : (t ns : List ℕ) (n : ℕ) (d : Dtype) → t ≡ table d → ns ≡ names d → Passes t ns n → read_dtype t ns ≡ gives d
unfolding read_dtype
listed_read t ns n d q r p =
    let z : n ≡ entries_of d = omega (arith, p.long, ap length q, table_length d) in
    let p' : Passes (table d) (names d) (entries_of d) = rw (q, r, z) at p in
    simp (table_of_these t ns d q r, passes_listed d p')

pub passes_read : (t ns : List ℕ) (n : ℕ) → Passes t ns n → (d : Dtype) × (read_dtype t ns ≡ gives d)
passes_read t ns n p =
    let r = whole_lists t ns n
    (record {
      long = p.long;
      some = p.some;
      reaches = p.first.reaches;
      no_parent = p.first.no_parent;
      no_name = p.first.no_name;
      agrees = λ e l. (p.sound e l).agrees;
      named = p.named.long;
    }) in
    (r.0, listed_read t ns n r.0 r.1 r.2 p)

table_of_27 : (t ns : List ℕ) (k : ℕ) → table_of t ns ≡ refused k → k ≡ 27
unfolding table_of
table_of_27 t ns k h = go (same t (table u) && same ns (names u)) h
  where
    u : Dtype
    u = unflat (length t) t ns

    go : (b : Bool) → cond b (gives u) (refused 27) ≡ refused k → k ≡ 27
    go true e = let z : ◌≡◌ {A = ℕ} 0 1 = cc in absurd (omega arith)
    go false e = cc

pub fails_read : (t ns : List ℕ) → ((n : ℕ) → Passes t ns n → ⊥) → read_dtype t ns ≡ refused 27
unfolding read_dtype
fails_read t ns h = go (table_of t ns) refl
  where
    by_test : (d : Dtype) → t ≡ table d → ns ≡ names d → (b : Bool) → unread d ≡ b → unless b 27 (gives d) ≡ refused 27
    by_test d p q true e = refl
    by_test d p q false e =
        let rest = or_right (is_array d) (untyped d || ill_named d) e in
        let g = listed_passes d (or_left (is_array d) (untyped d || ill_named d) e) (or_left (untyped d) (ill_named d) rest) (or_right (untyped d) (ill_named d) rest) in
        absurd (h (entries_of d) (rw (p, q) g))

    go : (r : Outcome Dtype) → table_of t ns ≡ r → then r (λ d. unless (unread d) 27 (gives d)) ≡ refused 27
    go (gives d) e = let v = table_of_right t ns d e in by_test d v.0 v.1 (unread d) refl
    go (refused k) e = ap refused (table_of_27 t ns k e)

-- what is read has this table and these names
pub read_view : (t ns : List ℕ) (d : Dtype) → read_dtype t ns ≡ gives d → (t ≡ table d) × (ns ≡ names d)
unfolding read_dtype
read_view t ns d h = go (table_of t ns) refl h
  where
    by_test : (u : Dtype) → t ≡ table u → ns ≡ names u → (b : Bool) → unless b 27 (gives u) ≡ gives d → (t ≡ table d) × (ns ≡ names d)
    by_test u p q true e = let z : ◌≡◌ {A = ℕ} 0 1 = cc in absurd (omega arith)
    by_test u p q false e = let z : u ≡ d = cc in rw (← z) (p, q)

    go : (r : Outcome Dtype) → table_of t ns ≡ r → then r (λ u. unless (unread u) 27 (gives u)) ≡ gives d → (t ≡ table d) × (ns ≡ names d)
    go (gives u) e k = let v = table_of_right t ns u e in by_test u v.0 v.1 (unread u) k
    go (refused m) e k = let z : ◌≡◌ {A = ℕ} 0 1 = cc in absurd (omega arith)

-- a refusal is 27 ..
pub read_27 : (t ns : List ℕ) → refuses (read_dtype t ns) ≡ true → read_dtype t ns ≡ refused 27
unfolding read_dtype
read_27 t ns h = go (table_of t ns) refl h
  where
    by_test : (d : Dtype) (b : Bool) → refuses (unless b 27 (gives d)) ≡ true → unless b 27 (gives d) ≡ refused 27
    by_test d true e = refl
    by_test d false e = true_false (sym e)

    go : (r : Outcome Dtype) → table_of t ns ≡ r → refuses (then r (λ d. unless (unread d) 27 (gives d))) ≡ true
        → then r (λ d. unless (unread d) 27 (gives d)) ≡ refused 27
    go (gives d) e k = by_test d (unread d) k
    go (refused m) e k = ap refused (table_of_27 t ns m e)

-- .. and what is not refused is read
pub read_gives : {A : Type 0} (o : Outcome A) → refuses o ≡ false → (a : A) × (o ≡ gives a)
read_gives (gives a) h = (a, refl)
read_gives (refused n) h = true_false h

-- ---- the results of `is_dtype`
pub read_no : (t ns : List ℕ) → ((n : ℕ) → Passes t ns n → ⊥) → false ≡ not (refuses (read_dtype t ns))
read_no t ns h = sym (ap (λ (o : Outcome Dtype). not (refuses o)) (fails_read t ns h))

module _ (t ns : List ℕ) (k n : ℕ) (p : Passes t ns k) (l : length t ≡ entry_width * n) where
  count_is : k ≡ n
  count_is = omega (arith, p.long)

  pub passes_first : (x : Entry) → x ≡ entry_at t 0 → Outermost x n
  passes_first x s = rw (s, ← count_is) p.first

  pub passes_sound : (e : ℕ) → e < n → SoundEntry t n e
  passes_sound = rw (← count_is) p.sound

pub read_named : (t ns : List ℕ) (n : ℕ) (r : Bool) → length t ≡ entry_width * n → 0 < n → Outermost (entry_at t 0) n → ((e : ℕ) → e < n → SoundEntry t n e)
    → Decides r (NamesPass t ns n) → r ≡ not (refuses (read_dtype t ns))
read_named t ns n r l s f a d = go r refl
  where
    go : (b : Bool) → r ≡ b → r ≡ not (refuses (read_dtype t ns))
    go true e =
        let p = passes_read t ns n (record { long = l; some = s; first = f; sound = a; named = d.only e }) in
        e ∙ sym (ap (λ (o : Outcome Dtype). not (refuses o)) p.1)
    go false e =
        e ∙ read_no t ns (λ k p.
        let z : k ≡ n = omega (arith, p.long) in
        let q : NamesPass t ns n = rw z at p.named in
        true_false (sym (d.all q) ∙ e))
