-- A dtype that is listed in a table and its names, and what a walk over it puts and where it ends. Document 01, "The record": "The dtype table is listed depth
-- first, left to right, parent first" and "Names are stored decoded, end to end in table order": so a walk that prints meets both in their order.
use Rattle.std.specs.Prelude.{ℕ, ◌+◌, ◌≤◌, ◌≡◌, false, not, List, length, drop}
use Rattle.emit.specs.Emits.{Emits}
use Rattle.type_str.specs.Text.{is_type}
use Rattle.dtype.specs.Dtype.{Dtype, Fields}
use Rattle.dtype.specs.Entries.{some_entry_in, plain_only}
use Rattle.dtype.specs.Record.{names_of, names_in}
use Rattle.check_table.specs.Reading.{untyped}
use Rattle.write_depth.specs.Listed.{InTableAt, FieldsInTableAt}
use Rattle.write_text.specs.declared.inner.WalkEnd.{WalkEnd}

-- d is listed from entry e on and its names from byte b on, and type strings give its types
pub record ListedNamed (t ns : List ℕ) (e b : ℕ) (d : Dtype) : Type 0 where
  pub listed : InTableAt t e d
  pub later : List ℕ
  pub named : drop b ns ≡ names_of d later
  pub inside : b ≤ length ns
  pub typed : untyped d ≡ false

pub record ListedNamedIn (t ns : List ℕ) (e b : ℕ) (fs : Fields) : Type 0 where
  pub listed : FieldsInTableAt t e fs
  pub later : List ℕ
  pub named : drop b ns ≡ names_in fs later
  pub inside : b ≤ length ns
  pub typed : some_entry_in (plain_only (λ t. not (is_type t))) fs ≡ false

-- the text f was put at `at`, and so many entries and name bytes were passed
pub record Walked (f : List ℕ → List ℕ) (entries bytes : ℕ) (old : List ℕ) (e b at : ℕ) (out : List ℕ) (r : WalkEnd) : Type 0 where
  pub emits : Emits f old at out r.at
  pub next : r.entry ≡ e + entries
  pub next_name : r.byte ≡ b + bytes
