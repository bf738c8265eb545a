-- How long a quoted string is: at most two bytes for each of its own, and its two quotes.
use Prim.Native.Nat.{ℕ, zero, suc, ◌+◌, ◌*◌, ◌≤◌}
use native.Mathlib.Omega.{arith}
use mathlib.Core.List.{List, [], ◌∷◌}
use lib.ListN.{length}
use Rattle.literal_grammar.specs.Print.{escape_of, spelled_byte, escapes, quote, print}

spelled_length : (letter b : ℕ) (r : List ℕ) → length (spelled_byte letter b r) ≤ 2 + length r
spelled_length zero b r = omega arith
spelled_length (suc c) b r = omega arith

escapes_length : (w r : List ℕ) → length (escapes w r) ≤ 2 * length w + length r
escapes_length [] r = omega arith
escapes_length (b ∷ w) r = omega (arith, spelled_length (escape_of b) b (escapes w r), escapes_length w r)

pub quote_length : (w r : List ℕ) → length (print (quote w) r) ≤ 2 + 2 * length w + length r
quote_length w r = omega (arith, escapes_length w (39 ∷ r))
