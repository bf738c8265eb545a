-- The type under the array levels that a dtype begins with, and where a table lists it.
use Prim.Native.Nat.{ℕ, ◌+◌}
use mathlib.Core.Path.{◌≡◌}
use mathlib.Core.List.{List}
use Rattle.dtype.specs.Dtype.{Dtype, plain, array, record_of}
use Rattle.dtype.specs.Entries.{levels}
use Rattle.write_depth.specs.Listed.{InTableAt}

-- the type under the array levels that a dtype begins with
abbrev pub innermost_of : Dtype → Dtype
innermost_of (plain t) = plain t
innermost_of (array n d) = innermost_of d
innermost_of (record_of fs) = record_of fs

-- where d is listed from entry e on, that type is listed from entry r on, one entry further for each level
pub record Innermost (t : List ℕ) (e : ℕ) (d : Dtype) (r : ℕ) : Type 0 where
  pub listed : InTableAt t r (innermost_of d)
  pub passed : r ≡ e + levels d
