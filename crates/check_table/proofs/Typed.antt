-- In a dtype's table the entries without a type are its types that no type string gives.
use Prim.Native.Nat.{ℕ, ◌*◌}
use mathlib.Core.Path.{◌≡◌, refl, ap, ◌∙◌}
use mathlib.Core.Bool.{Bool, true, false, not, ◌||◌, ◌&&◌}
use mathlib.Core.List.{List, []}
use native.Mathlib.Omega.{arith}
use lib.Dec.{eqb}
use lib.ListN.{drop}
use Rattle.counts.specs.Outcome.{Outcome, gives, unless}
use Rattle.type_str.specs.Text.{is_type}
use Rattle.type_str.specs.declared.TypeStr.{TypeStr}
use Rattle.dtype.specs.Dtype.{Dtype, plain, array, record_of}
use Rattle.dtype.specs.Entries.{entries_of, plain_only}
use Rattle.dtype.specs.Record.{entry_width, flat, table}
use Rattle.dtype.specs.EntryOf.{entry_of}
use Rattle.dtype.specs.Agrees.{entry_at}
use Rattle.dtype.specs.Seen.{some_from}
use Rattle.dtype.specs.declared.Entry.{Entry}
use Rattle.dtype.proofs.InTable.{in_table_entry}
use Rattle.dtype.proofs.Seen.{some_below, seen}
use Rattle.table_entry.specs.EntryType.{in_record, typed, type_of}
use Rattle.check_table.specs.Decides.{refuses, untyped_at}
use Rattle.check_table.specs.Reading.{untyped}
use Rattle.table_entry.proofs.Types.{type_of_written}

refuses_typed : (t : TypeStr) → refuses (in_record (typed t)) ≡ not (is_type t)
refuses_typed t = go (is_type t)
  where
    go : (b : Bool) → refuses (in_record (unless (not b) 27 (gives t))) ≡ not b
    go true = refl
    go false = refl

untyped_plain : (ty : TypeStr) (up m : ℕ) → refuses (type_of (entry_of (plain ty) up m)) ≡ not (is_type ty)
untyped_plain ty up m =
    ap (λ (o : Outcome TypeStr). refuses o)
    (type_of_written (entry_of (plain ty) up m) ty (record { order = refl; letter = refl; number = refl; units = refl }))
    ∙ refuses_typed ty

as_entry : (t : List ℕ) (e : ℕ) (x : Entry) → entry_at t e ≡ x → untyped_at t e ≡ (eqb x.kind 0 && refuses (type_of x))
as_entry t e x s = ap (λ (a : Entry). eqb a.kind 0 && refuses (type_of a)) s

untyped_at_lem : (d : Dtype) (t : List ℕ) (e up m : ℕ) (x : List ℕ) → drop (entry_width * e) t ≡ flat d e up m x
    → untyped_at t e ≡ plain_only (λ ty. not (is_type ty)) d
untyped_at_lem (plain ty) t e up m x h = as_entry t e (entry_of (plain ty) up m) (in_table_entry (plain ty) t e up m x h) ∙ untyped_plain ty up m
untyped_at_lem (array n d) t e up m x h = as_entry t e (entry_of (array n d) up m) (in_table_entry (array n d) t e up m x h)
untyped_at_lem (record_of fs) t e up m x h = as_entry t e (entry_of (record_of fs) up m) (in_table_entry (record_of fs) t e up m x h)

pub untyped_seen : (d : Dtype) → some_from (untyped_at (table d)) (entries_of d) 0 ≡ untyped d
untyped_seen d =
    seen (plain_only (λ ty. not (is_type ty))) (untyped_at (table d)) (table d) (entries_of d)
    (λ c e up m x r h. ap (λ (b : Bool). b || some_below (plain_only (λ ty. not (is_type ty))) c) (untyped_at_lem c (table d) e up m x h))
    d 0 0 0 [] (omega arith) refl
