-- The dimension that a number is without a `-`, and after one. Of a number that was read this is `signed` of crate record, which the contracts say too.
use Rattle.std.specs.Prelude.{cond, eqb, Err, None, Ok, Some, Result, ℕ, Option}
use Rattle.refusal.specs.declared.Refusal.{Refusal}

abbrev pub positive_of : Option ℕ → Result ℕ Refusal
positive_of (Some n) = Ok n
positive_of None = Err Refusal.LargeDimension

abbrev pub negative_of : Option ℕ → Result ℕ Refusal
negative_of (Some n) = cond (eqb n 0) (Ok 0) (Err Refusal.NotShape)
negative_of None = Err Refusal.NotShape
