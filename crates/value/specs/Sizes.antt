-- How many bytes are read in each form: document 01, "The record", "Sizes: b 1; i, u 1 2 4 8; f 2 4 8 16; c 8 16 32; m, M 8".
use Rattle.std.specs.Prelude.{ℕ, ◌≡◌, true}
use Rattle.type_letters.specs.declared.TypeChar.TheVariants.{Int}
use Rattle.type_str.specs.Rules.{allows}
use Rattle.value.specs.declared.Form.{Form}

-- "i, u 1 2 4 8"
abbrev pub IntegerSize : ℕ → Type 0
IntegerSize n = allows Int n ≡ true

abbrev pub Sized : Form → ℕ → Type 0
Sized Form.Bool n = n ≡ 1
Sized Form.Signed n = IntegerSize n
Sized Form.Unsigned n = IntegerSize n
Sized Form.Half n = n ≡ 2
Sized Form.Single n = n ≡ 4
Sized Form.Double n = n ≡ 8
Sized Form.SinglePair n = n ≡ 8
Sized Form.DoublePair n = n ≡ 16
Sized Form.Time n = n ≡ 8
Sized Form.NoValue n = Unit {0}
