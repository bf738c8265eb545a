-- The fields of a half float: its digits and their shift by cases, and how large they are.
use mathlib.Core.Path.{◌≡◌, refl}
use Prim.Native.Nat.{ℕ, zero, suc, ◌+◌, ◌^◌, ◌<◌, ◌≤◌}
use native.Mathlib.Omega.{arith}
use mathlib.Core.Bool.{Bool, true, false}
use Rattle.value_float.specs.Half.{digits, shift, sign_bits}

pub digits_some : (x t : ℕ) → (x ≡ 0 → ⊥) → 1024 + t ≡ digits x t
digits_some zero t n = absurd (n refl)
digits_some (suc x) t n = refl

pub digits_few : (x t : ℕ) → t < 1024 → digits x t < 2 ^ 11
digits_few zero t h = omega arith
digits_few (suc x) t h = omega arith

pub shift_few : (x : ℕ) → x < 31 → shift x < 30
shift_few zero h = omega arith
shift_few (suc x) h = omega arith

pub sign_few : (s : Bool) → sign_bits s ≤ 2147483648
sign_few true = omega arith
sign_few false = omega arith
