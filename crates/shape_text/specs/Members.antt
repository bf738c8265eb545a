-- One member of a shape: where its list or tuple closes, and the dimension that it is. Of a value that was read this is `dimension` of crate record, which
-- the contract says too.
use Rattle.refusal.specs.Answers.{answer}
use Rattle.std.specs.Prelude.{ℕ, ◌+◌, ◌≡◌, List, cond, eqb, Err, Result}
use Rattle.decimal.specs.Decimal.{is_digit}
use Rattle.record.specs.Dimensions.{dimension}
use Rattle.literal_tokens.specs.Node.{Node}
use Rattle.literal_bytes.specs.Got.{got}
use Rattle.literal_bytes.specs.Text.{byte_at}
use Rattle.literal_tokens.specs.Tokens.{numeral_at}
use Rattle.literal.specs.Forget.{forget}
use Rattle.literal.specs.Literal.{value}
use Rattle.literal_bytes.specs.declared.ValueKind.{ValueKind}
use Rattle.literal_bytes.specs.declared.ValueKind.TheVariants.{Square, Round, Curly, Quote, Minus, Digit, TrueWord, FalseWord, NoneWord, Other}
use Rattle.refusal.specs.declared.Refusal.{Refusal}
use Rattle.shape_verdict.specs.Signs.{positive_of, negative_of}

-- the closing bracket of a list (93 is `]`) or a tuple (41 is `)`), by the kind of its first byte, or 0
abbrev pub closing_of : ValueKind → ℕ
closing_of Square = 93
closing_of Round = 41
closing_of Curly = 0
closing_of Quote = 0
closing_of Minus = 0
closing_of Digit = 0
closing_of TrueWord = 0
closing_of FalseWord = 0
closing_of NoneWord = 0
closing_of Other = 0

-- what the dimension of the value at a position has to be, whichever value is there
abbrev pub SizeAt : List ℕ → ℕ → Result ℕ Refusal → Type 0
SizeAt s at r = (k : ℕ) (n : Node) (e : ℕ) → value k s at ≡ got n e → answer r ≡ dimension (forget n)

-- the dimension that the digits at a position are, or those after a `-` (45); any other byte begins none
abbrev pub member_at : List ℕ → ℕ → Result ℕ Refusal
member_at s at = cond (is_digit (byte_at s at)) (positive_of (numeral_at s at).number) (cond (eqb (byte_at s at) 45) (negative_of (numeral_at s (at + 1)).number) (Err Refusal.NotShape))
