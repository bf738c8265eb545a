-- A dtype that is listed in a table, from one entry to the next: its kind, its room, what is listed inside it. And the loop that passes array levels, of any table.
use Prim.Native.Nat.{ℕ, suc, ◌+◌, ◌*◌, ◌<◌, ◌≤◌}
use native.Mathlib.Omega.{arith}
use mathlib.Core.Path.{◌≡◌, refl, ap, subst, ◌∙◌}
use mathlib.Core.Logic.{⊎_elim}
use mathlib.Core.List.{List}
use lib.ListN.{length, length-drop}
use Rattle.counts.proofs.Sides.{lt_or_ge}
use Rattle.dtype.specs.declared.Entry.{Entry}
use Rattle.dtype.specs.Dtype.{Dtype, Fields, plain, array, record_of, field_then}
use Rattle.dtype.specs.Entries.{entries_of}
use Rattle.dtype.specs.Record.{entry_width, flats}
use Rattle.dtype.specs.EntryOf.{kind_column, entry_of}
use Rattle.dtype.specs.Agrees.{entry_at}
use Rattle.dtype.proofs.Flat.{some_entry_lem, flat_length}
use Rattle.dtype.proofs.InTable.{in_table_entry, in_table_below, in_table_after}
use Rattle.record.specs.Layout.{descr_layout}
use Rattle.write_depth.specs.Listed.{InTableAt, FieldsInTableAt, Under}
use Rattle.write_depth.proofs.UnderLevels.{innermost_of, Innermost}

pub next_entry : (e : ℕ) → suc e ≡ e + 1
next_entry e = omega arith

module _ (t : List ℕ) (e : ℕ) where
  pub listed_entry : (d : Dtype) (l : InTableAt t e d) → entry_at t e ≡ entry_of d l.up l.name
  listed_entry d l = in_table_entry d t e l.up l.name l.rest l.is

  pub listed_room : (d : Dtype) → InTableAt t e d → entry_width * (e + entries_of d) ≤ length t
  listed_room d l = omega (arith, ap length l.is, length-drop (entry_width * e) t, flat_length d e l.up l.name l.rest, some_entry_lem d)

  pub listed_inner : (n : ℕ) (d : Dtype) → InTableAt t e (array n d) → InTableAt t (e + 1) d
  listed_inner n d l =
      rw (← (next_entry e))
      (record { up = e; name = 0; rest = l.rest; is = in_table_below (array n d) t e l.up l.name l.rest l.is })

  pub listed_fields : (fs : Fields) → InTableAt t e (record_of fs) → FieldsInTableAt t (e + 1) fs
  listed_fields fs l =
      rw (← (next_entry e)) (record { up = e; rest = l.rest; is = in_table_below (record_of fs) t e l.up l.name l.rest l.is })

  abbrev pub listed_first : (name : List ℕ) (d : Dtype) (fs : Fields) → FieldsInTableAt t e (field_then name d fs) → InTableAt t e d
  listed_first name d fs l = record { up = l.up; name = length name; rest = flats fs (e + entries_of d) l.up l.rest; is = l.is }

  pub listed_later : (name : List ℕ) (d : Dtype) (fs : Fields) → FieldsInTableAt t e (field_then name d fs) → FieldsInTableAt t (e + entries_of d) fs
  listed_later name d fs l =
      record { up = l.up; rest = l.rest; is = in_table_after d t e l.up (length name) (flats fs (e + entries_of d) l.up l.rest) l.is }

-- ---- the loop of `innermost`: the entries that were passed are array levels
pub record Passed (t : List ℕ) (e c : ℕ) : Type 0 where
  pub further : e ≤ c
  pub levelled : (i : ℕ) → e ≤ i → i < c → (entry_at t i).kind ≡ 1

-- ---- where a dtype is listed, the entry after its levels is that of the type under them
module _ (t : List ℕ) (e r : ℕ) (u : Under t e r) where
  under_none : ((entry_at t e).kind ≡ 1 → ⊥) → e ≡ r
  under_none k =
      ⊎_elim (λ (h : e < r). absurd (k (u.levelled e (omega arith) h))) (λ (h : r ≤ e). omega (arith, u.further)) (lt_or_ge e r)

  under_some : (entry_at t e).kind ≡ 1 → e < r
  under_some k =
      ⊎_elim (λ (h : e < r). h) (λ (h : r ≤ e). let z : r ≡ e = omega (arith, u.further) in absurd (u.no_level (rw z k))) (lt_or_ge e r)

pub kind_at : (t : List ℕ) (e : ℕ) (d : Dtype) (l : InTableAt t e d) → (entry_at t e).kind ≡ kind_column d
kind_at t e d l = ap (λ (a : Entry). a.kind) (listed_entry t e d l)

pub under_innermost : (t : List ℕ) (e r : ℕ) → Under t e r → (d : Dtype) → InTableAt t e d → Innermost t e d r
under_innermost t e r u (plain ty) l =
    let z : e ≡ r = under_none t e r u (λ k. omega (arith, kind_at t e (plain ty) l)) in
    record { listed = subst (λ (c : ℕ). InTableAt t c (plain ty)) z l; passed = omega arith }
under_innermost t e r u (array n d) l =
    let z : e < r = under_some t e r u (kind_at t e (array n d) l) in
    let v =
    under_innermost t (e + 1) r
    (record { further = omega arith; levelled = λ c a b. u.levelled c (omega arith) b; no_level = u.no_level }) d (listed_inner t e n d l) in
    record { listed = v.listed; passed = omega (arith, v.passed) }
under_innermost t e r u (record_of fs) l =
    let z : e ≡ r = under_none t e r u (λ k. omega (arith, kind_at t e (record_of fs) l)) in
    record { listed = subst (λ (c : ℕ). InTableAt t c (record_of fs)) z l; passed = omega arith }

-- ---- a dtype and the type under its array levels have the same text
pub innermost_descr : (d : Dtype) → descr_layout (innermost_of d) ≡ descr_layout d
innermost_descr (plain ty) = refl
innermost_descr (array n d) = innermost_descr d
innermost_descr (record_of fs) = refl

innermost_kind : (d : Dtype) → kind_column (innermost_of d) ≡ 1 → ⊥
innermost_kind (plain ty) k = omega arith
innermost_kind (array n d) k = innermost_kind d k
innermost_kind (record_of fs) k = omega arith

-- the entry after the levels is no array's
pub under_record : (t : List ℕ) (e r : ℕ) → ((d : Dtype) → InTableAt t e d → Innermost t e d r) → (x : Entry) → x ≡ entry_at t r → (d : Dtype) → InTableAt t e d → x.kind ≡ 1 → ⊥
under_record t e r under x q d l k =
    let v : x.kind ≡ kind_column (innermost_of d) = ap (λ (a : Entry). a.kind) (q ∙ listed_entry t r (innermost_of d) (under d l).listed) in
    innermost_kind d (omega arith)
