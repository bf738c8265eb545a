-- A dtype that is listed in a table from some entry on, and the type under its array levels. Document 01, "The record": "The dtype table is listed depth first, left
-- to right, parent first".
use Rattle.std.specs.Prelude.{ℕ, ◌*◌, ◌<◌, ◌≤◌, ◌≡◌, List, drop}
use Rattle.dtype.specs.Dtype.{Dtype, Fields}
use Rattle.dtype.specs.Record.{entry_width, flat, flats}
use Rattle.dtype.specs.Agrees.{entry_at}

-- d is listed in a table from entry e on
pub record InTableAt (t : List ℕ) (e : ℕ) (d : Dtype) : Type 0 where
  pub up : ℕ
  pub name : ℕ
  pub rest : List ℕ
  pub is : drop (entry_width * e) t ≡ flat d e up name rest

-- and so are fields
pub record FieldsInTableAt (t : List ℕ) (e : ℕ) (fs : Fields) : Type 0 where
  pub up : ℕ
  pub rest : List ℕ
  pub is : drop (entry_width * e) t ≡ flats fs e up rest

-- of any table: r is the first entry from e on whose kind is not 1, an array's
pub record Under (t : List ℕ) (e r : ℕ) : Type 0 where
  pub further : e ≤ r
  pub levelled : (c : ℕ) → e ≤ c → c < r → (entry_at t c).kind ≡ 1
  pub no_level : (entry_at t r).kind ≡ 1 → ⊥
