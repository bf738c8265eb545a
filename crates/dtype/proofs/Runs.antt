-- How many bytes a path selects, and which byte of the file an index, a path and a byte of the plain type describe.
use Prim.Native.Nat.{ℕ, ◌+◌, ◌<◌, zero, suc}
use mathlib.Core.Path.{◌≡◌, ap}
use mathlib.Core.List.{List, [], ◌∷◌}
use Rattle.dtype.specs.Record.{Record}
use Rattle.dtype.specs.Places.{plain_at, place, Ask}
use Rattle.dtype.specs.Dtype.{Dtype, Fields, plain, array, record_of, end_of_fields, field_then}
use Rattle.dtype.specs.PlainBytes.{plain_bytes}
use Rattle.type_str.specs.declared.TypeStr.{TypeStr}
use Rattle.counts.specs.Outcome.{Outcome, gives, refused}

-- an index has one number for each dimension, and each is below its dimension
abbrev pub InRange : (shape index : List ℕ) → Type 0
InRange [] [] = Unit
InRange [] (i ∷ x) = ⊥
InRange (n ∷ s) [] = ⊥
InRange (n ∷ s) (i ∷ x) = (i < n) × InRange s x

-- the path leads to a plain type
abbrev mutual
  pub PathTo : Dtype → List ℕ → Type 0
  PathTo (plain t) [] = Unit
  PathTo (plain t) (i ∷ p) = ⊥
  PathTo (array n d) [] = ⊥
  PathTo (array n d) (i ∷ p) = (i < n) × PathTo d p
  PathTo (record_of fs) [] = ⊥
  PathTo (record_of fs) (i ∷ p) = FieldPath fs i p

  pub FieldPath : Fields → ℕ → List ℕ → Type 0
  FieldPath end_of_fields i p = ⊥
  FieldPath (field_then name d fs) zero p = PathTo d p
  FieldPath (field_then name d fs) (suc i) p = FieldPath fs i p

-- the size of the plain type at the end of a path, 0 if there is none
abbrev pub run_of : Outcome TypeStr → ℕ
run_of (gives t) = plain_bytes t
run_of (refused n) = 0

-- how many bytes a path selects
abbrev pub run : Dtype → List ℕ → ℕ
run d p = run_of (plain_at d p)

-- .. are those of the plain type that it leads to
pub run_plain : (d : Dtype) (p : List ℕ) (t : TypeStr) → plain_at d p ≡ gives t → run d p ≡ plain_bytes t
run_plain d p t e = ap run_of e

-- byte b of the file is the byte that a describes
pub record Belongs (start : ℕ) (r : Record) (b : ℕ) (a : Ask) : Type 0 where
  pub index_in_range : InRange r.shape a.index
  pub is_path : PathTo r.dtype a.path
  pub in_run : a.byte < run r.dtype a.path
  pub is_byte : place start r a.index a.path + a.byte ≡ b
