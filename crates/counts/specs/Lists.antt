-- Bytes and numbers in a row. Texts, files and runs of bytes are lists of natural numbers in these definitions.
use Rattle.std.specs.Prelude.{ℕ, ◌<◌, List, [], ◌∷◌, ◌++◌, Bool, true, false, ◌&&◌, eqb, length, drop}

-- whether two lists are equal. Document 01, "The record": "of equal keys the last counts", and "records are equal exactly when tables, names, shapes and orders are"
abbrev pub same : List ℕ → List ℕ → Bool
same [] [] = true
same [] (b ∷ t) = false
same (a ∷ s) [] = false
same (a ∷ s) (b ∷ t) = same s t && eqb a b

-- the buffer `old` with its first entries replaced by `new`. Document 01, "The refusal numbers": "On success, room beyond what was needed is unchanged."
abbrev pub at_front : (new old : List ℕ) → List ℕ
at_front new old = new ++ drop (length new) old

-- each number of a list is a byte: a statement that needs it says so
abbrev pub AllBytes : List ℕ → Type 0
AllBytes [] = Unit
AllBytes (b ∷ bs) = (b < 256) × AllBytes bs
