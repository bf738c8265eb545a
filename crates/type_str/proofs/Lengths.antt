-- How long the text of a type is: at most 26 bytes, order, letter, 20 digits and units in brackets. And a type that some type string gives has a size below 2^64.
use Prim.Native.Nat.{ℕ, ◌+◌, ◌^◌, ◌<◌, ◌≤◌}
use native.Mathlib.Omega.{arith}
use mathlib.Core.Path.{◌≡◌}
use mathlib.Core.Logic.{⊎_elim}
use mathlib.Core.Bool.{Bool, true, false, cond}
use mathlib.Core.List.{List}
use lib.ListN.{length}
use Rattle.counts.proofs.Sides.{lt_or_ge}
use Rattle.decimal.specs.Decimal.{printed}
use Rattle.decimal.proofs.Lengths.{printed_u64}
use Rattle.type_letters.specs.Letters.{is_object}
use Rattle.type_units.specs.Units.{unit_text}
use Rattle.type_units.specs.declared.TimeUnits.{TimeUnits}
use Rattle.type_units.specs.declared.TimeUnits.TheVariants.{Absent, Year, Month, Week, Day, Hour, Minute, Second, Millisecond, Microsecond, Nanosecond, Picosecond, Femtosecond, Attosecond}
use Rattle.type_str.specs.Text.{type_text, is_type}
use Rattle.type_str.specs.declared.TypeStr.{TypeStr}
use Rattle.type_str.proofs.Checks.{checked_over}

unit_length : (u : TimeUnits) (r : List ℕ) → length (unit_text u r) ≤ 4 + length r
unit_length Absent r = omega arith
unit_length Year r = omega arith
unit_length Month r = omega arith
unit_length Week r = omega arith
unit_length Day r = omega arith
unit_length Hour r = omega arith
unit_length Minute r = omega arith
unit_length Second r = omega arith
unit_length Millisecond r = omega arith
unit_length Microsecond r = omega arith
unit_length Nanosecond r = omega arith
unit_length Picosecond r = omega arith
unit_length Femtosecond r = omega arith
unit_length Attosecond r = omega arith

size_length : (object : Bool) (n : ℕ) (r : List ℕ) → n < 2 ^ 64 → length (cond object r (printed n r)) ≤ 20 + length r
size_length true n r h = omega arith
size_length false n r h = printed_u64 n r h

pub type_length : (t : TypeStr) (r : List ℕ) → t.size < 2 ^ 64 → length (type_text t r) ≤ 26 + length r
unfolding type_text
type_length t r h = omega (arith, size_length (is_object t.letter) t.size (unit_text t.units r) h, unit_length t.units r)

pub type_size : (t : TypeStr) → is_type t ≡ true → t.size < 2 ^ 64
unfolding is_type
type_size t h =
    ⊎_elim (λ l. l)
    (λ g. let e : ◌≡◌ {A = Bool} false true = rw (is_type, checked_over t g) at h in let z : ◌≡◌ {A = ℕ} 0 1 = cc in absurd (omega arith))
    (lt_or_ge t.size (2 ^ 64))
