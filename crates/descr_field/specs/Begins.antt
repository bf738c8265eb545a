-- What a value begins with, and where what follows a gap is.
use Rattle.std.specs.Prelude.{ℕ, Bool, true, false}
use Rattle.literal_bytes.specs.declared.ValueKind.{ValueKind}
use Rattle.literal_bytes.specs.declared.ValueKind.TheVariants.{Square, Round, Curly, Quote, Minus, Digit, TrueWord, FalseWord, NoneWord, Other}
use Rattle.literal_bytes.specs.declared.Gap.{Gap}
use Rattle.literal_bytes.specs.declared.Gap.TheVariants.{Shut, Item, Stray}

-- what a string begins with
abbrev pub is_string : ValueKind → Bool
is_string Square = false
is_string Round = false
is_string Curly = false
is_string Quote = true
is_string Minus = false
is_string Digit = false
is_string TrueWord = false
is_string FalseWord = false
is_string NoneWord = false
is_string Other = false

-- where the bracket ends, the next item begins, or the stray byte is
abbrev pub gap_place : Gap → ℕ
gap_place (Shut e) = e
gap_place (Item p) = p
gap_place (Stray p) = p
