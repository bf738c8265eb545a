-- Texts that begin with the encoding of a scalar value, and where the first ill-formed sequence of a text begins.
use Prim.Native.Nat.{ℕ, ◌<◌}
use mathlib.Core.Path.{◌≡◌}
use mathlib.Core.Bool.{true}
use mathlib.Core.List.{List, ◌++◌}
use lib.ListN.{length, take, drop}
use Rattle.utf8_scalar.specs.Scalar.{is_scalar}
use Rattle.utf8_scalar.specs.Encode.{encode}
use Rattle.utf8.specs.Utf8.{WellFormed}

-- a text that begins with the encoding of a scalar value
pub record Begins (text : List ℕ) : Type 0 where
  pub value : ℕ
  pub rest : List ℕ
  pub scalar : is_scalar value ≡ true
  pub split : text ≡ encode value ++ rest

-- the first ill-formed sequence begins at place `at`: the bytes before it are well-formed, and no encoding begins there
pub record FirstIll (text : List ℕ) (at : ℕ) : Type 0 where
  pub inside : at < length text
  pub before : WellFormed (take at text)
  pub stuck : Begins (drop at text) → ⊥
