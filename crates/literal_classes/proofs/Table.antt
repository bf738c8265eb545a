-- The table is the comparisons at every byte: one test over the whole table, which is computed, and a law that turns it into the fact at each byte.
use mathlib.Core.Path.{◌≡◌, sym}
use mathlib.Core.Bool.{Bool, false, ◌||◌}
use Prim.Native.Nat.{ℕ, ◌<◌, ◌≤◌}
use native.Mathlib.Omega.{arith}
use native.Mathlib.Decide.{dec_lt}
use lib.Dec.{eqb, eqb→eq}
use lib.ListN.{length, get_or-eq_default}
use Rattle.decimal.specs.Decimal.{is_digit}
use Rattle.literal_grammar.specs.Bytes.{is_blank, is_quote, is_open}
use Rattle.literal_classes.specs.Classes.{is_word_letter, is_bracket, class_of}
use Rattle.literal_classes.specs.Table.{other_row, rows, row_of, class_entry}
use Rattle.literal_classes.proofs.Bytes.{at_below}

abbrev right : ℕ → Bool
right b = eqb (class_entry b) (class_of b)

pub table_right : (b : ℕ) → b < 256 → class_entry b ≡ class_of b
unfolding class_entry rows class_of is_blank is_digit is_word_letter is_quote is_bracket is_open
table_right b h = eqb→eq (class_entry b) (class_of b) (at_below right 256 tt b h)

-- the rows with bytes of another class than `other`
abbrev written : ℕ → Bool
written r = eqb r 0 || eqb r 2 || eqb r 3 || eqb r 4 || eqb r 6 || eqb r 5 || eqb r 7

abbrev other : ℕ → Bool
other r = written r || eqb other_row (row_of r)

-- each other row, and past the last one
pub other_at : (r : ℕ) → written r ≡ false → other_row ≡ row_of r
unfolding rows
other_at r h = elim (dec_lt r 16) [
  | yes l ↦ eqb→eq other_row (row_of r) (rw h at (at_below other 16 tt r l))
  | no g ↦ let past : length rows ≤ r = omega arith in sym (get_or-eq_default rows other_row past)
]
