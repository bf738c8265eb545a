-- The array levels of a dtype that is listed in a table, and what a dtype and the type under its array levels share.
use Prim.Native.Nat.{ℕ, zero, suc, ◌+◌, ◌≤◌}
use native.Mathlib.Omega.{arith}
use mathlib.Core.Path.{◌≡◌, refl, ap, ◌∙◌}
use mathlib.Core.List.{List}
use lib.ListN.{length}
use Rattle.dtype.specs.declared.Entry.{Entry}
use Rattle.dtype.specs.Dtype.{Dtype, plain, array, record_of}
use Rattle.dtype.specs.Entries.{entries_of, levels}
use Rattle.dtype.specs.Record.{names_of, name_bytes_of}
use Rattle.dtype.specs.Agrees.{entry_at}
use Rattle.dtype.proofs.Flat.{some_entry_lem}
use Rattle.record.specs.Layout.{levels_of}
use Rattle.check_table.specs.Reading.{untyped}
use Rattle.write_depth.specs.Listed.{InTableAt}
use Rattle.write_depth.proofs.UnderLevels.{innermost_of}
use Rattle.write_depth.proofs.Listing.{listed_entry, listed_room, listed_inner, kind_at}
use Rattle.write_pieces.specs.Pieces.{levels_from}
use Rattle.write_pieces.proofs.Levels.{levels_more, levels_none}

-- ---- the array levels in the table are the dtype's
pub levels_listed : (k : ℕ) (t : List ℕ) (e : ℕ) (d : Dtype) → InTableAt t e d → length t ≤ k + e → levels_from k t e ≡ levels_of d
levels_listed k t e (plain ty) l h = levels_none t e k (λ z. omega (arith, kind_at t e (plain ty) l))
levels_listed zero t e (array n d) l h = absurd (omega (arith, listed_room t e (array n d) l, some_entry_lem (array n d)))
levels_listed (suc k) t e (array n d) l h =
    let number_is : (entry_at t e).number ≡ n = ap (λ (a : Entry). a.number) (listed_entry t e (array n d) l) in
    let rest = levels_listed k t (e + 1) d (listed_inner t e n d l) (omega arith) in
    levels_more t e k (kind_at t e (array n d) l) ∙ rw (number_is, rest) refl
levels_listed k t e (record_of fs) l h = levels_none t e k (λ z. omega (arith, kind_at t e (record_of fs) l))

-- ---- a dtype and the type under its array levels have the same names and types
pub innermost_names : (d : Dtype) (y : List ℕ) → names_of (innermost_of d) y ≡ names_of d y
innermost_names (plain ty) y = refl
innermost_names (array n d) y = innermost_names d y
innermost_names (record_of fs) y = refl

pub innermost_bytes : (d : Dtype) → name_bytes_of (innermost_of d) ≡ name_bytes_of d
innermost_bytes (plain ty) = refl
innermost_bytes (array n d) = innermost_bytes d
innermost_bytes (record_of fs) = refl

pub innermost_typed : (d : Dtype) → untyped (innermost_of d) ≡ untyped d
innermost_typed (plain ty) = refl
innermost_typed (array n d) = innermost_typed d
innermost_typed (record_of fs) = refl

pub innermost_entries : (d : Dtype) → levels d + entries_of (innermost_of d) ≡ entries_of d
innermost_entries (plain ty) = refl
innermost_entries (array n d) = omega (arith, innermost_entries d)
innermost_entries (record_of fs) = omega arith
