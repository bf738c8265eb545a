-- What a name and a declared order mean. Refusal 8: "not a dict, or a key not a string". Refusal 9: "key missing". Refusal 10: "`fortran_order` not boolean".
use Rattle.refusal.specs.Answers.{answer}
use Rattle.std.specs.Prelude.{ℕ, ◌≡◌, List, [], Err, Ok, Result}
use Rattle.counts.specs.Outcome.{Outcome, gives, refused, then, given}
use Rattle.refusal.specs.declared.Refusal.{Refusal}
use Rattle.dtype.specs.declared.Order.{Order}
use Rattle.dtype.specs.declared.Order.TheVariants.{C, Fortran}
use Rattle.record.specs.FromValue.{declared_order}
use Rattle.record.specs.Dict.{key_order, key_shape, key_descr, is_the}
use Rattle.literal_tokens.specs.Node.{Node}
use Rattle.literal_bytes.specs.Got.{got}
use Rattle.literal_bytes.specs.declared.ValueKind.{ValueKind}
use Rattle.literal_bytes.specs.declared.ValueKind.TheVariants.{Square, Round, Curly, Quote, Minus, Digit, TrueWord, FalseWord, NoneWord, Other}
use Rattle.literal.specs.Forget.{forget}
use Rattle.literal.specs.Literal.{value}
use Rattle.judge_names.specs.declared.Name as name
use Rattle.judge_names.specs.declared.Name.{Name}

-- a key of this name; the empty one is taken for all strings that are none of the three
abbrev pub key_of : Name → Outcome (List ℕ)
key_of name.Name.Descr = gives key_descr
key_of name.Name.Order = gives key_order
key_of name.Name.Shape = gives key_shape
key_of name.Name.Extra = gives []
key_of name.Name.NoString = refused 8

-- the name is that of the key: whether it is a string, and which of the three it is
pub record NameIs (r : Name) (key : Outcome (List ℕ)) : Type 0 where
  pub of_string : given key ≡ given (key_of r)
  pub of_descr : is_the key_descr key ≡ is_the key_descr (key_of r)
  pub of_order : is_the key_order key ≡ is_the key_order (key_of r)
  pub of_shape : is_the key_shape key ≡ is_the key_shape (key_of r)

-- the order that the value of a key declares, or the key is missing
abbrev pub OrderIs : Result Order Refusal → Outcome Node → Type 0
OrderIs x o = answer x ≡ then o (λ n. declared_order (forget n))

-- the order that the value at a position declares, whichever value is there
abbrev pub WordAt : List ℕ → ℕ → Result Order Refusal → Type 0
WordAt s at r = (k : ℕ) (n : Node) (e : ℕ) → value k s at ≡ got n e → OrderIs r (gives n)

-- the order by the kind of a value's first byte, also where there is no value
abbrev pub word_of : ValueKind → Result Order Refusal
word_of TrueWord = Ok Fortran
word_of FalseWord = Ok C
word_of Square = Err Refusal.NotBoolean
word_of Round = Err Refusal.NotBoolean
word_of Curly = Err Refusal.NotBoolean
word_of Quote = Err Refusal.NotBoolean
word_of Minus = Err Refusal.NotBoolean
word_of Digit = Err Refusal.NotBoolean
word_of NoneWord = Err Refusal.NotBoolean
word_of Other = Err Refusal.NotBoolean
