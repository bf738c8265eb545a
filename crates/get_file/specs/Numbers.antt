-- The numbers of an index or a path as text: decimal numbers separated by commas (44), `-` (45) for none. A number over 2^64-1 counts as 2^64-1, which no index and no path has in
-- range: the dimensions of a shape, the lengths of arrays and the counts of fields are at most that.
use Rattle.std.specs.Prelude.{ℕ, ◌+◌, ◌*◌, ◌-◌, Bool, true, false, cond, not, ◌&&◌, List, [], ◌∷◌, eqb, length, take, None, Some, Option}
use Rattle.counts.specs.Outcome.{Outcome, gives, refused, each, unless}
use Rattle.counts.specs.Number.{capped}
use Rattle.counts.specs.Lists.{same}
use Rattle.decimal.specs.Decimal.{is_digit}

-- whether a text is digits, and single commas between digits; `digit` if the byte before it is a digit
unfoldable pub is_list : (digit : Bool) → List ℕ → Bool
is_list digit [] = digit
is_list digit (b ∷ s) = cond (is_digit b) (is_list true s) (digit && eqb b 44 && is_list false s)

-- the numbers of a list, after digits of its first that write n
unfoldable pub list_numbers : (n : ℕ) → List ℕ → List ℕ
list_numbers n [] = capped n ∷ []
list_numbers n (b ∷ s) = cond (eqb b 44) (capped n ∷ list_numbers 0 s) (list_numbers (10 * n + (b - 48)) s)

-- the numbers of a text; 0, which is no refusal of document 01's or 02's, where it is no list
unfoldable pub numbers_from : List ℕ → Outcome (List ℕ)
numbers_from text = cond (same text (45 ∷ [])) (gives []) (unless (not (is_list false text)) 0 (gives (list_numbers 0 text)))

-- as many of them as there is room for
abbrev pub numbers_in : (text room : List ℕ) → Outcome (List ℕ)
numbers_in text room = each (take (length room)) (numbers_from text)

-- what an answer means
abbrev pub listed_answer : Option ℕ → Outcome ℕ
listed_answer (Some n) = gives n
listed_answer None = refused 0
